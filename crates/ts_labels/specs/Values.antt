-- Lists of values that accept the same, and lists without repetitions.
use Rattle.std.specs.Prelude.{◌≡◌, ⊤, ℕ, false, List, [], ◌∷◌}
use Rattle.std.specs.Cmp.Lexicographic.{slice_cmp}
use Rattle.std.specs.List.Sorted.{IsStrictlySortedBy}
use Rattle.std.specs.Ordering.{nat_cmp}
use Rattle.ts_spec.specs.Filter.{is_one_of}

-- both lists contain the same values
abbrev pub AreAlike : (one other : List (List ℕ)) → Type 0
AreAlike one other = (value : List ℕ) → is_one_of one value ≡ is_one_of other value

-- no value is there twice
abbrev pub AreOnce : List (List ℕ) → Type 0
AreOnce [] = ⊤
AreOnce (v ∷ vs) = (is_one_of vs v ≡ false) × AreOnce vs

-- A list contains the values of another one, in ascending order and without repetitions.
pub record AreSorted (named sorted : List (List ℕ)) : Type 0 where
  pub ascending : IsStrictlySortedBy (slice_cmp nat_cmp) sorted
  pub alike : AreAlike sorted named
