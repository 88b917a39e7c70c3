use Rattle.std.proofs.Common.{ℕ, [], refl, ◌∙◌, ap, subst}
use Rattle.std.specs.Prelude.{Some}
use Rattle.ts_execution.proofs.Carried.{carries_none, carries_then}
use Rattle.ts_engine.specs.CaptureSteps.{WroteOrFault}
use Rattle.ts_engine.proofs.CapturesOn.{went_none, answers_then, went_then}
use Rattle.ts_engine.proofs.capture_session.CaptureSession.answer_items.Goals as goal

pub loop-capture_go-init : goal.loop-capture_go-init
loop-capture_go-init g c = record { went = carries_none _ _ (λ from stands. went_none _ _ _ [] (λ more. refl) (λ more. refl) refl); frames = refl; fine = refl }

pub returns-in-Some-clause-goes : goal.returns-in-Some-clause-goes
returns-in-Some-clause-goes g c =
    carries_then _ _ _ _ _ _ (λ from between to went goes. answers_then _ _ _ _ [] went c.in-Some.capture_go _ _ goes) c.loop-capture_go.invariant.went c.in-Some.ensures.goes

pub returns-in-Some-clause-asked : goal.returns-in-Some-clause-asked
returns-in-Some-clause-asked g c = λ is. c.in-Some.ensures.asked (ap Some is)

pub returns-in-Some-clause-cause : goal.returns-in-Some-clause-cause
returns-in-Some-clause-cause g c =
    subst (λ (n : ℕ). WroteOrFault n (g.K.Sink.faults c.answer_item.new.out) (Some c.in-Some.capture_go)) c.loop-capture_go.invariant.fine c.in-Some.ensures.cause

pub loop-capture_go-preserved : goal.loop-capture_go-preserved
loop-capture_go-preserved g c = record {
  went = carries_then _ _ _ _ _ _ (λ from between to went goes. went_then _ _ _ _ [] went _ _ goes) c.loop-capture_go.invariant.went c.in_default.ensures.goes;
  frames = c.in_default.ensures.frames ∙ c.loop-capture_go.invariant.frames;
  fine = c.in_default.ensures.cause ∙ c.loop-capture_go.invariant.fine;
}
