use Rattle.std.proofs.Common.{◌+◌, refl, ◌∙◌, arith}
use Rattle.ts_execution.proofs.Carried.{carries_none, carries_as, carries_then}
use Rattle.ts_engine.specs.declared.serving.Served.TheVariants.{Done}
use Rattle.ts_engine.proofs.Links.{serves_none, serves_both, serves_so_many, serves_within}
use Rattle.ts_engine.proofs.serving.serve.Goals as goal

pub loop-link-init : goal.loop-link-init
loop-link-init g c = record {
  serves = carries_none _ _ (λ from stands. serves_none _ _ _ 1 _ _ _ _);
  net = c.requires.net;
  accepts = refl;
  writes = refl;
  within = omega arith;
}

pub loop-link-preserved : goal.loop-link-preserved
loop-link-preserved g c = record {
  serves = carries_then _ _ _ _ _ _ (λ from between to one two. serves_both _ _ _ Done 1 c.loop-link.link 1 (c.loop-link.link + 1) _ _ _ _ _ _ _ _ _ _ _ _ (omega arith) one two) c.loop-link.invariant.serves c.in-Done.ensures.serves;
  net = c.in-Done.ensures.net;
  accepts = c.in-Done.ensures.no_accept_fault (λ is. cc) ∙ c.loop-link.invariant.accepts;
  writes = c.in-Done.ensures.no_write_fault (λ is. cc) ∙ c.loop-link.invariant.writes;
  within = omega arith;
}

pub returns-in_default : goal.returns-in_default
returns-in_default g c = record {
  serves = carries_then _ _ _ _ _ _ (λ from between to one two.
      serves_within _ _ _ c.serve_link.result 1 (c.loop-link.link + 1) c.args.links _ _ _ _ _ _ _ _ c.in_default.not-Done (omega arith)
      (serves_both _ _ _ c.serve_link.result 1 c.loop-link.link 1 (c.loop-link.link + 1) _ _ _ _ _ _ _ _ _ _ _ _ (omega arith) one two)) c.loop-link.invariant.serves c.serve_link.ensures.serves;
  net = c.serve_link.ensures.net;
  accepts_later = omega (arith, c.loop-link.invariant.accepts, c.serve_link.ensures.accepts_later);
  writes_later = omega (arith, c.loop-link.invariant.writes, c.serve_link.ensures.writes_later);
  accept_fault = λ is. omega (arith, c.loop-link.invariant.accepts, c.serve_link.ensures.accept_fault is);
  write_fault = λ is. omega (arith, c.loop-link.invariant.writes, c.serve_link.ensures.write_fault is);
  no_accept_fault = λ other. c.serve_link.ensures.no_accept_fault other ∙ c.loop-link.invariant.accepts;
  no_write_fault = λ other. c.serve_link.ensures.no_write_fault other ∙ c.loop-link.invariant.writes;
}

pub returns-clause-serves : goal.returns-clause-serves
returns-clause-serves g c =
    carries_as _ _ _ _ (λ from to serves. serves_so_many _ _ _ 1 c.loop-link.link c.args.links _ _ _ _ _ _ _ _ (omega arith) serves) c.loop-link.invariant.serves
