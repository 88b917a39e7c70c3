use Rattle.std.proofs.Common.{[], refl, ◌∙◌}
use Rattle.std.specs.Prelude.{None, Some}
use Rattle.ts_io.proofs.Growth.{grows_none}
use Rattle.ts_execution.proofs.Carried.{carries_none, carries_then}
use Rattle.ts_host.proofs.Contents.{extends_none}
use Rattle.ts_host.proofs.Going.{went_none, went_then, handled_then}
use Rattle.ts_host.proofs.Lines.{gave_none}
use Rattle.ts_host.proofs.host.Host.answer_all.Goals as goal

pub loop-steps-init : goal.loop-steps-init
loop-steps-init g c = record {
  went = carries_none _ _ (λ from stands. went_none _ _ [] (λ more. refl) (λ link. refl) refl (extends_none _ _ refl) (gave_none _ _ (record { each = λ sent given had. had })) (grows_none (g.K.Sink.has c.args.out.now)));
  own = c.requires.own;
  reach = refl;
  taken = refl;
  lent = refl;
  coming = refl;
  fine = refl;
}

pub loop-steps-preserved : goal.loop-steps-preserved
loop-steps-preserved g c = record {
  went = carries_then _ _ _ _ _ _ (λ from between to went more. went_then _ _ _ [] went more) c.loop-steps.invariant.went c.in-Answered.ensures.handled;
  own = c.in-Answered.ensures.own;
  reach = c.in-Answered.ensures.reached ∙ c.loop-steps.invariant.reach;
  taken = c.in-Answered.ensures.taken ∙ c.loop-steps.invariant.taken;
  lent = c.in-Answered.ensures.lent ∙ c.loop-steps.invariant.lent;
  coming = c.in-Answered.ensures.coming ∙ c.loop-steps.invariant.coming;
  fine = c.in-Answered.ensures.cause ∙ c.loop-steps.invariant.fine;
}

pub returns-in-NoneLeft-clause-handled : goal.returns-in-NoneLeft-clause-handled
returns-in-NoneLeft-clause-handled g c =
    carries_then _ _ _ _ _ _ (λ from between to went more. handled_then None _ _ _ [] went more) c.loop-steps.invariant.went c.in-NoneLeft.ensures.handled

pub returns-in-Fault-clause-handled : goal.returns-in-Fault-clause-handled
returns-in-Fault-clause-handled g c =
    carries_then _ _ _ _ _ _ (λ from between to went more. handled_then (Some c.in-Fault.fault) _ _ _ [] went more) c.loop-steps.invariant.went c.in-Fault.ensures.handled
