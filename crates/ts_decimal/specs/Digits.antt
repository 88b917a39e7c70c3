-- Texts that start with a digit, and texts that do not.
use Rattle.std.specs.Prelude.{◌≡◌, ℕ, ◌+◌, ◌<◌, List, [], ◌∷◌}
use Rattle.ts_spec.specs.Value.{digits, after_digits}

-- the text is this digit followed by `after`
pub record BeginsWith (text : List ℕ) (digit : ℕ) (after : List ℕ) : Type 0 where
  pub split : text ≡ (48 + digit) ∷ after
  pub small : digit < 10

-- the text does not start with a digit
pub record HasNoDigit (text : List ℕ) : Type 0 where
  pub none : digits text ≡ []
  pub after : after_digits text ≡ text
