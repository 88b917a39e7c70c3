-- Which command lines select no mode.
use Rattle.std.proofs.Common.{◌≡◌, ℕ, ◌≤◌, List, [], ◌∷◌, length, None, refl, arith}
use Rattle.ts_words.specs.Modes.{mode_of}

-- five words or more
pub too_many : (words : List (List ℕ)) → 5 ≤ length words → mode_of words ≡ None
too_many [] many = refl
too_many (a ∷ []) many = absurd (omega (arith, many))
too_many (a ∷ b ∷ []) many = absurd (omega (arith, many))
too_many (a ∷ b ∷ c ∷ []) many = absurd (omega (arith, many))
too_many (a ∷ b ∷ c ∷ d ∷ []) many = absurd (omega (arith, many))
too_many (a ∷ b ∷ c ∷ d ∷ e ∷ words) many = refl
