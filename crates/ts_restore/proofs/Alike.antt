-- Valid states with the same stored data answer alike.
use Rattle.std.proofs.Common.{◌≡◌, ℕ, ◌≤◌, refl, sym, ◌∙◌}
use Rattle.ts_spec.specs.declared.limits.Limits.{Limits}
use Rattle.ts_spec.specs.Command.{Command}
use Rattle.ts_spec.specs.Represents.{SimulatesStep}
use Rattle.ts_spec.specs.State.{State}
use Rattle.ts_spec.specs.Step.{step}
use Rattle.ts_spec.specs.StoredQueries.{stored_step}
use Rattle.ts_spec.specs.StoredSeries.{kept}
use Rattle.ts_spec.specs.Valid.{IsValid}
use Rattle.ts_spec.proofs.StoredSteps.{kept-step}

module _ (limits : Limits) (m n : State) (reading : ℕ) (command : Command) (some : 1 ≤ limits.samples) (v : IsValid limits m) (w : IsValid limits n) (same : kept m ≡ kept n) where
  first : SimulatesStep limits (step limits m reading command) (stored_step limits (kept m) reading command)
  first = kept-step limits m (kept m) reading command some (record { valid = v; kept = refl })

  second : SimulatesStep limits (step limits n reading command) (stored_step limits (kept m) reading command)
  second = kept-step limits n (kept m) reading command some (record { valid = w; kept = same })

  pub alike-responses : (step limits m reading command).response ≡ (step limits n reading command).response
  alike-responses = first.response ∙ sym second.response

  pub alike-stored : kept (step limits m reading command).state ≡ kept (step limits n reading command).state
  alike-stored = sym first.stands.kept ∙ second.stands.kept
