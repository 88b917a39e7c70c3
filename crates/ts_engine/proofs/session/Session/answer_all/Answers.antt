use Rattle.std.proofs.Common.{[], refl, ◌∙◌, ap}
use Rattle.std.specs.Prelude.{Some}
use Rattle.ts_execution.proofs.Carried.{carries_none, carries_then}
use Rattle.ts_engine.proofs.Sessions.{fed_only, answers_then, went_then}
use Rattle.ts_engine.proofs.Causes.{cause_after}
use Rattle.ts_engine.proofs.session.Session.answer_all.Goals as goal

pub loop-go-init : goal.loop-go-init
loop-go-init g c = record { went = carries_none _ _ (λ from stands. fed_only _ _ _ [] (λ more. refl) refl refl); fed = refl; fine = (refl, refl); lent = refl }

pub returns-in-Some-clause-goes : goal.returns-in-Some-clause-goes
returns-in-Some-clause-goes g c =
    carries_then _ _ _ _ _ _ (λ from between to went goes. answers_then _ _ _ _ [] went c.in-Some.go _ _ goes) c.loop-go.invariant.went c.in-Some.ensures.goes

pub returns-in-Some-clause-current : goal.returns-in-Some-clause-current
returns-in-Some-clause-current g c = λ is. c.in-Some.ensures.current (ap Some is)

pub returns-in-Some-clause-cause : goal.returns-in-Some-clause-cause
returns-in-Some-clause-cause g c = cause_after g.T.Handler.kind (Some c.in-Some.go) _ _ _ _ _ _ c.loop-go.invariant.fine c.in-Some.ensures.cause

pub loop-go-preserved : goal.loop-go-preserved
loop-go-preserved g c = record {
  went = carries_then _ _ _ _ _ _ (λ from between to went goes. went_then _ _ _ _ [] went _ _ goes.0) c.loop-go.invariant.went c.in_default.ensures.goes;
  fed = c.in_default.ensures.fed ∙ c.loop-go.invariant.fed;
  fine = (c.in_default.ensures.cause.0 ∙ c.loop-go.invariant.fine.0, c.in_default.ensures.cause.1 ∙ c.loop-go.invariant.fine.1);
  lent = c.answer_next.ensures.lent ∙ c.loop-go.invariant.lent;
}
