-- Texts without CR.
use Rattle.std.proofs.Common.{ℕ, zero, suc, ◌+◌, ◌/◌, ◌%◌, ◌^◌, ◌≤◌, ◌==◌, nat_lt, Bool, true, false, if◌then◌else◌, ℤ, pos, negsuc, List, [], ◌∷◌, ◌++◌, map, Option, Some, None, refl, arith}
use Rattle.std.specs.Fmt.{decimal, signed_decimal, digits, digits_onto, digit_glyph}
use Rattle.std.specs.Int.Digits.{digits_with_fuel}
use Rattle.std.proofs.lemmas.Bool.{eqb-false}
use Rattle.ts_spec.specs.Value.{PLACES, places, shown_value, shown_whole, shown_fraction, shown_magnitude}
use Rattle.ts_spec.specs.Text.{shown_cell, IsOneLine}

-- each byte is a digit, or comes after the digits
abbrev pub AreDigits : List ℕ → Type 0
AreDigits [] = Unit {0}
AreDigits (byte ∷ bytes) = (48 ≤ byte) × AreDigits bytes

glyph : (d : ℕ) → 48 ≤ digit_glyph false d
glyph d = go (nat_lt d 10)
  where
    go : (b : Bool) → 48 ≤ (if b then 48 + d else 87 + d)
    go true = omega arith
    go false = omega arith

AreDigits-onto : (k n : ℕ) (digits : List ℕ) → AreDigits digits → AreDigits (digits_onto k 10 false n digits)
AreDigits-onto zero n digits h = h
AreDigits-onto (suc k) n digits h = go (n / 10 == 0) (AreDigits-onto k (n / 10) (digit_glyph false (n % 10) ∷ digits) (glyph (n % 10), h))
  where
    go : (b : Bool) → AreDigits (digits_onto k 10 false (n / 10) (digit_glyph false (n % 10) ∷ digits)) →
        AreDigits (if b then digit_glyph false (n % 10) ∷ digits else digits_onto k 10 false (n / 10) (digit_glyph false (n % 10) ∷ digits))
    go true ih = (glyph (n % 10), h)
    go false ih = ih

pub AreDigits-decimal : (n : ℕ) → AreDigits (decimal n)
unfolding digits
AreDigits-decimal n = AreDigits-onto 64 n [] tt

pub IsOneLine-digits : (digits : List ℕ) → AreDigits digits → IsOneLine digits
IsOneLine-digits [] h = tt
IsOneLine-digits (digit ∷ digits) h = (λ e. omega arith, IsOneLine-digits digits h.1)

pub IsOneLine-signed : (z : ℤ) → IsOneLine (signed_decimal z)
IsOneLine-signed (pos n) = IsOneLine-digits (decimal n) (AreDigits-decimal n)
IsOneLine-signed (negsuc n) = (eqb-false 45 13 refl, IsOneLine-digits (decimal (suc n)) (AreDigits-decimal (suc n)))

AreDigits-glyphs : (digits : List ℕ) → AreDigits (map (λ d. 48 + d) digits)
AreDigits-glyphs [] = tt
AreDigits-glyphs (digit ∷ digits) = (omega arith, AreDigits-glyphs digits)

AreDigits-places : (k n : ℕ) → AreDigits (places k n)
AreDigits-places k zero = tt
AreDigits-places zero (suc n) = tt
AreDigits-places (suc k) (suc n) = (omega arith, AreDigits-places k (suc n % 10 ^ k))

IsOneLine-append : (a b : List ℕ) → IsOneLine a → IsOneLine b → IsOneLine (a ++ b)
IsOneLine-append [] b ha hb = hb
IsOneLine-append (byte ∷ a) b ha hb = (ha.0, IsOneLine-append a b ha.1 hb)

IsOneLine-whole : (n : ℕ) → IsOneLine (shown_whole n)
unfolding shown_whole
IsOneLine-whole zero = (eqb-false 48 13 refl, tt)
IsOneLine-whole (suc n) = IsOneLine-digits (shown_whole (suc n)) (AreDigits-glyphs (digits_with_fuel 10 64 (suc n)))

IsOneLine-fraction : (n : ℕ) → IsOneLine (shown_fraction n)
IsOneLine-fraction zero = tt
IsOneLine-fraction (suc n) = (eqb-false 46 13 refl, IsOneLine-digits (places PLACES (suc n)) (AreDigits-places PLACES (suc n)))

IsOneLine-magnitude : (n : ℕ) → IsOneLine (shown_magnitude n)
IsOneLine-magnitude n = IsOneLine-append (shown_whole (n / 10 ^ PLACES)) (shown_fraction (n % 10 ^ PLACES)) (IsOneLine-whole (n / 10 ^ PLACES)) (IsOneLine-fraction (n % 10 ^ PLACES))

pub IsOneLine-shown_cell : (cell : Option ℤ) → IsOneLine (shown_cell cell)
unfolding shown_value
IsOneLine-shown_cell None = (eqb-false 78 13 refl, (eqb-false 97 13 refl, (eqb-false 78 13 refl, tt)))
IsOneLine-shown_cell (Some (pos n)) = IsOneLine-magnitude n
IsOneLine-shown_cell (Some (negsuc n)) = (eqb-false 45 13 refl, IsOneLine-magnitude (suc n))
