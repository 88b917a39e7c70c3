use Rattle.std.proofs.Common.{sym, refl, subst}
use Rattle.std.specs.Prelude.{Option}
use Rattle.ts_checkpoint.specs.Loading.{Restoring}
use Rattle.ts_execution.specs.Stages.{GivesRestored}
use Rattle.ts_execution.proofs.Carried.{carries_none, carries_as}
use Rattle.ts_execution.proofs.parts.restore_samples.Goals as goal

pub returns-in-Ok-true : goal.returns-in-Ok-true
returns-in-Ok-true g c =
    carries_as _ _ _ _
    (λ from to is. subst (λ (w : Option Restoring). GivesRestored c.go_on.result w from to) (sym (c.in-Ok-true.ensures.added (cc) from.limits from.state)) is)
    c.go_on.ensures

pub returns-in-Ok-false : goal.returns-in-Ok-false
returns-in-Ok-false g c = carries_none _ _ (λ from stands. (c.in-Ok-false.ensures.refused (cc) from.limits from.state, refl))
