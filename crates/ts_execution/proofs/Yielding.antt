-- Responses that allow out of memory in their place.
use Rattle.std.proofs.Common.{ℕ, List, [], ◌∷◌, ◌++◌}
use Rattle.ts_spec.specs.declared.limits.Limits.{Limits}
use Rattle.ts_spec.specs.Command.{Triple}
use Rattle.ts_spec.specs.Response.{Item}
use Rattle.ts_spec.specs.State.{State}
use Rattle.ts_spec.specs.Step.{Outcome, madd, triple_step, item_of}
use Rattle.ts_db.specs.DbState.{AllowsOutOfMemory}

-- TS.MADD as a whole never fails
pub madd_yields : (limits : Limits) (m : State) (reading : ℕ) (so_far : List Item) (triples : List Triple) → AllowsOutOfMemory (madd limits m reading so_far triples).response
madd_yields limits m reading so_far [] = tt
madd_yields limits m reading so_far (x ∷ xs) =
    let done : Outcome = triple_step limits m reading x.key x.at x.value in
    madd_yields limits done.state reading (so_far ++ item_of done.response) xs
