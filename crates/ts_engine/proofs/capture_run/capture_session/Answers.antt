use Rattle.std.proofs.Common.{refl, ◌∙◌, subst, arith, rules}
use Rattle.ts_execution.proofs.Carried.{carries_none, carries_as, carries_then}
use Rattle.ts_engine.specs.CaptureSteps.{HasCausesOr}
use Rattle.ts_engine.proofs.CapturePumps.{so_far_none, so_far_more, replayed_end, replayed_budget, replayed_none, is_up_to_date, causes_from}
use Rattle.ts_engine.proofs.capture_run.capture_session.Goals as goal

pub returns-in_default-clause-capture_ran : goal.returns-in_default-clause-capture_ran
returns-in_default-clause-capture_ran g c = carries_none _ _ (λ from stands. replayed_none c.args.limits c.args.budget _ _ _)

pub loop-taken-init : goal.loop-taken-init
loop-taken-init g c = record {
  so_far = carries_none _ _ (λ from stands. so_far_none c.args.limits c.in-Ok.capture_session from (g.C.Clock.readings c.args.clock.now) _ _ c.in-Ok.ensures);
  answered = c.in-Ok.ensures.answered;
  fed = c.in-Ok.ensures.fed;
  within = omega arith;
  reads = refl;
  writes = refl;
}

pub loop-taken-preserved : goal.loop-taken-preserved
loop-taken-preserved g c =
    let causes = subst (λ e. HasCausesOr e (g.S.Source.faults c.loop-taken.input) (g.S.Source.faults c.pump-read.new.input) (g.K.Sink.faults c.loop-taken.out) (g.K.Sink.faults c.pump-read.new.out))
    c.in_default-end.is c.pump-read.ensures.causes in
    record {
      so_far = carries_then _ _ _ _ _ _ (λ from between to so pumped. so_far_more _ _ _ _ _ _ _ _ so c.pump-read.result _ _ _ c.in_default-end.is pumped) c.loop-taken.invariant.so_far c.pump-read.ensures.pumped;
      answered = c.pump-read.ensures.answered c.in_default-end.is;
      fed = omega (arith, c.pump-read.ensures.fed c.in_default-end.is, c.loop-taken.invariant.fed);
      within = search rules;
      reads = causes.0 ∙ c.loop-taken.invariant.reads;
      writes = causes.1 ∙ c.loop-taken.invariant.writes;
    }

pub returns-in-Some-clause-capture_ran : goal.returns-in-Some-clause-capture_ran
returns-in-Some-clause-capture_ran g c =
    carries_then _ _ _ _ _ _ (λ from between to so pumped.
    replayed_end _ _ _ _ _ _ _ _ so c.args.budget c.pump-read.result c.in-Some.end _ _ _ (search rules) (search rules) c.in-Some.is c.pump-read.ensures.unspent
    (is_up_to_date c.loop-taken.capture_session between (g.C.Clock.readings c.loop-taken.clock) c.loop-taken.invariant.answered) (search rules) pumped)
    c.loop-taken.invariant.so_far c.pump-read.ensures.pumped

pub returns-in-Some-clause-causes : goal.returns-in-Some-clause-causes
returns-in-Some-clause-causes g c =
    let causes = subst (λ e. HasCausesOr e (g.S.Source.faults c.loop-taken.input) (g.S.Source.faults c.pump-read.new.input) (g.K.Sink.faults c.loop-taken.out) (g.K.Sink.faults c.pump-read.new.out))
    c.in-Some.is c.pump-read.ensures.causes in
    causes_from c.in-Some.end _ _ _ _ _ _ c.loop-taken.invariant.reads c.loop-taken.invariant.writes causes

pub returns-clause-capture_ran : goal.returns-clause-capture_ran
returns-clause-capture_ran g c =
    carries_as _ _ _ _ (λ from to so.
    replayed_budget _ _ _ _ _ _ _ _ so c.args.budget (omega arith) (is_up_to_date c.loop-taken.capture_session to (g.C.Clock.readings c.loop-taken.clock) c.loop-taken.invariant.answered)) c.loop-taken.invariant.so_far
