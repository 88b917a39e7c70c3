-- The sign of a formatted value.
use Rattle.std.specs.Prelude.{ℕ, Bool, List, [], ◌∷◌, if◌then◌else◌}
use Rattle.ts_spec.specs.Wire.{MINUS}

-- `-` for a negative value, nothing otherwise
abbrev pub sign_text : Bool → List ℕ
sign_text negative = if negative then MINUS ∷ [] else []
