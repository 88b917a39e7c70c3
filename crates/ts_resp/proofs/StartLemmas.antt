-- The first byte of a request.
use Rattle.std.proofs.Common.{◌≡◌, ℕ, if◌then◌else◌, [], ap, eq-eqb}
use Rattle.std.proofs.lemmas.Bool.{ne_eqb}
use Rattle.ts_spec.specs.declared.wire.WireLimits.{WireLimits}
use Rattle.ts_spec.specs.Wire.{Start, Text, Count, STAR, Goto, Blank, on_text, move}

-- of an array
pub on_star : (limits : WireLimits) (byte : ℕ) → byte ≡ STAR → move limits Start byte ≡ Goto (Count Blank)
on_star limits byte e = ap (λ test. if test then Goto (Count Blank) else on_text limits [] byte) (eq-eqb byte STAR e)

-- of a line
pub on_other : (limits : WireLimits) (byte : ℕ) → (byte ≡ STAR → ⊥) → move limits Start byte ≡ move limits (Text []) byte
on_other limits byte e = ap (λ test. if test then Goto (Count Blank) else on_text limits [] byte) (ne_eqb byte STAR e)
