use Rattle.std.proofs.Common.{refl, ◌∙◌, subst, arith, rules}
use Rattle.ts_execution.proofs.Carried.{carries_none, carries_as, carries_then}
use Rattle.ts_engine.specs.Piping.{HasCausesWithOr}
use Rattle.ts_engine.specs.SessionView.{progress_in}
use Rattle.ts_engine.proofs.Pipes.{so_far_none, so_far_more, piped_end, piped_budget, piped_none, begins_current, causes_from}
use Rattle.ts_engine.proofs.piped.pipe_with.Goals as goal

pub returns-in_default-clause-piped : goal.returns-in_default-clause-piped
returns-in_default-clause-piped g c = carries_none _ _ (λ from stands. piped_none {handler = g.T.Handler.kind} c.args.limits.wire c.args.limits.budget _ _ _)

pub loop-taken-init : goal.loop-taken-init
loop-taken-init g c = record {
  so_far = carries_none _ _ (λ from stands. so_far_none c.args.limits.wire (progress_in g.T.Handler.kind c.in-Ok.session (g.T.Handler.world c.args.handler.now from (g.C.Clock.readings c.args.clock.now))) _ _ c.in-Ok.ensures.stream c.in-Ok.ensures.executed);
  current = begins_current _ c.args.limits.wire c.in-Ok.ensures.stream c.in-Ok.ensures.place;
  goes_on = c.in-Ok.ensures.ended;
  fed = c.in-Ok.ensures.fed;
  within = omega arith;
  reads = refl;
  writes = (refl, refl);
  lent = refl;
}

pub loop-taken-preserved : goal.loop-taken-preserved
loop-taken-preserved g c =
    let causes = subst (λ e. HasCausesWithOr g.T.Handler.kind e (g.S.Source.faults c.loop-taken.input) (g.S.Source.faults c.pump-step.new.input) (g.K.Sink.faults c.loop-taken.out) (g.K.Sink.faults c.pump-step.new.out)
    (g.T.Handler.own c.loop-taken.handler) (g.T.Handler.own c.pump-step.new.handler))
    c.in_default-end.is c.pump-step.ensures.causes in
    record {
      so_far = carries_then _ _ _ _ _ _ (λ from between to so pumped. so_far_more _ _ _ _ _ _ _ _ so c.pump-step.result _ _ _ c.in_default-end.is pumped) c.loop-taken.invariant.so_far c.pump-step.ensures.pumped;
      current = c.pump-step.ensures.current c.in_default-end.is;
      goes_on = c.pump-step.ensures.ended c.in_default-end.is;
      fed = omega (arith, c.pump-step.ensures.fed c.in_default-end.is, c.loop-taken.invariant.fed);
      within = search rules;
      reads = causes.0 ∙ c.loop-taken.invariant.reads;
      writes = (causes.1.0 ∙ c.loop-taken.invariant.writes.0, causes.1.1 ∙ c.loop-taken.invariant.writes.1);
      lent = c.pump-step.ensures.lent ∙ c.loop-taken.invariant.lent;
    }

pub returns-in-Some-clause-piped : goal.returns-in-Some-clause-piped
returns-in-Some-clause-piped g c =
    carries_then _ _ _ _ _ _ (λ from between to so pumped.
    piped_end _ _ _ _ _ _ _ _ so c.args.limits.budget c.executed.result c.pump-step.result c.in-Some.end _ _ _ c.executed.ensures (search rules) (search rules) c.in-Some.is c.pump-step.ensures.unspent
    (record { rest = c.loop-taken.invariant.current }) c.loop-taken.invariant.fed (search rules) pumped) c.loop-taken.invariant.so_far c.pump-step.ensures.pumped

pub returns-in-Some-clause-causes : goal.returns-in-Some-clause-causes
returns-in-Some-clause-causes g c =
    let causes = subst (λ e. HasCausesWithOr g.T.Handler.kind e (g.S.Source.faults c.loop-taken.input) (g.S.Source.faults c.pump-step.new.input) (g.K.Sink.faults c.loop-taken.out) (g.K.Sink.faults c.pump-step.new.out)
    (g.T.Handler.own c.loop-taken.handler) (g.T.Handler.own c.pump-step.new.handler))
    c.in-Some.is c.pump-step.ensures.causes in
    causes_from g.T.Handler.kind c.in-Some.end _ _ _ _ _ _ _ _ _ c.loop-taken.invariant.reads c.loop-taken.invariant.writes causes

pub returns-clause-piped : goal.returns-clause-piped
returns-clause-piped g c =
    carries_as _ _ _ _ (λ from to so.
    piped_budget _ _ _ _ _ _ _ _ so c.args.limits.budget c.executed-2.result c.executed-2.ensures (omega arith) (record { rest = c.loop-taken.invariant.current })) c.loop-taken.invariant.so_far
