-- The readings of a clock that knows them beforehand.
use Rattle.std.specs.Prelude.{ℕ, List, [], ◌∷◌}

-- the next reading: the first, or 0 if there is none
abbrev pub reading_of : List ℕ → ℕ
reading_of [] = 0
reading_of (r ∷ rs) = r

-- the readings left after one: the last is never used up
abbrev pub readings_after : List ℕ → List ℕ
readings_after [] = []
readings_after (r ∷ []) = r ∷ []
readings_after (r ∷ s ∷ rs) = s ∷ rs
