-- The result of a selection.
use Rattle.std.specs.Prelude.{◌≡◌, ℕ, Bool, List, map}
use Rattle.std.specs.Borrow.{Bor}
use Rattle.ts_spec.specs.Filter.{Filter}
use Rattle.ts_spec.specs.State.{Label}
use Rattle.ts_sample.specs.declared.sample.Id.{Id}
use Rattle.ts_index.specs.Candidates.{AreApart}
use Rattle.ts_index.specs.Index.{Labelled, labels_of}
use Rattle.ts_index.specs.Numbers.{has_id, pass}

-- The ids whose labels pass a test, without repetition, in any order.
pub record AreSelected (test : List Label → Bool) (es : Labelled) (is : List Id) : Type 0 where
  pub once : AreApart is
  pub which : (q : ℕ) → has_id q is ≡ pass test (labels_of q es)

-- the filters behind references
abbrev pub lent : List (Bor Filter) → List Filter
lent fs = map (λ f. f.now) fs
