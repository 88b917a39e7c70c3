-- The filter with the fewest candidates.
use Rattle.std.specs.Prelude.{◌≡◌, ℕ, true, false, List, Option, None, Some}
use Rattle.ts_spec.specs.Filter.{Filter, holds, all_hold, is_positive, has_positive}
use Rattle.ts_spec.specs.State.{Label}
use Rattle.ts_index.specs.Index.{Labelled}
use Rattle.ts_index.specs.Bounds.{candidates, fewest}

-- The filter requires a value, is implied by all filters together, and has the fewest candidates.
pub record IsMostSelective (es : Labelled) (fs : List Filter) (f : Filter) : Type 0 where
  pub positive : is_positive f ≡ true
  pub among : (labels : List Label) → all_hold fs labels ≡ true → holds f labels ≡ true
  pub few : candidates es f ≡ fewest es fs

-- the most selective filter with its number of candidates, or none if no filter requires a value
abbrev pub IsBest : Labelled → List Filter → Option (Filter × ℕ) → Type 0
IsBest es fs None = has_positive fs ≡ false
IsBest es fs (Some best) = IsMostSelective es fs best.0 × (best.1 ≡ fewest es fs)
