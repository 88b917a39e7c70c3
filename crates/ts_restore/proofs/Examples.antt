-- Worked examples, by computation. The check numbers were computed outside.
use Rattle.std.proofs.Common.{◌≡◌, [], ◌∷◌, refl}
use Rattle.std.specs.Prelude.{pos}
use Rattle.ts_spec.specs.Aggregate.{Summary}
use Rattle.ts_restore.specs.CheckNumber.{check_number}
use Rattle.ts_restore.specs.Summaries.{values_of}

-- the word "TS", then an empty word
one-word : check_number ((84 ∷ 83 ∷ []) ∷ []) ≡ 5636010
one-word = refl

empty-word : check_number ((84 ∷ 83 ∷ []) ∷ [] ∷ []) ≡ 1448454827
empty-word = refl

-- the words "T" and "S"
two-words : check_number ((84 ∷ []) ∷ (83 ∷ []) ∷ []) ≡ 1459836843
two-words = refl

abbrev four : Summary
four = record { count = 4; sum = pos 10; least = pos 1; greatest = pos 4; first = pos 2; last = pos 3 }

four-values : values_of four ≡ pos 2 ∷ pos 4 ∷ pos 1 ∷ pos 3 ∷ []
four-values = refl
