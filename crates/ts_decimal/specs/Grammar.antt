-- The grammar of decimal texts.
use Rattle.std.specs.Prelude.{◌≡◌, ℕ, ◌+◌, ◌≤◌, ◌⊎◌, ◌↔◌, Bool, true, false, List, [], ◌∷◌, ◌++◌, length}
use Rattle.std.specs.declared.option.Option.TheVariants.{Some}
use Rattle.ts_spec.specs.Wire.{MINUS, is_digit}
use Rattle.ts_spec.specs.Value.{Decimal, Scale, PLUS, POINT, number_after, scale, decimal}

-- an optional sign: nothing, `+` or `-`
abbrev pub IsSign : Bool → List ℕ → Type 0
IsSign negative sign = ((negative ≡ false) × (sign ≡ [])) ⊎ (((negative ≡ false) × (sign ≡ PLUS ∷ [])) ⊎ ((negative ≡ true) × (sign ≡ MINUS ∷ [])))

-- every byte is a digit
abbrev pub AreDigits : List ℕ → Type 0
AreDigits [] = Unit {0}
AreDigits (byte ∷ bytes) = (is_digit byte ≡ true) × AreDigits bytes

-- an optional fraction: nothing, or a point and digits
abbrev pub IsFraction : List ℕ → List ℕ → Type 0
IsFraction digits text = ((digits ≡ []) × (text ≡ [])) ⊎ (AreDigits digits × (text ≡ POINT ∷ digits))

-- `e` or `E`, an optional sign and one to three digits
pub record HasExponent (by : Scale) (text : List ℕ) : Type 0 where
  pub letter : ℕ
  pub negative : Bool
  pub sign : List ℕ
  pub digits : List ℕ
  pub is_letter : (letter ≡ 101) ⊎ (letter ≡ 69)
  pub is_sign : IsSign negative sign
  pub are_digits : AreDigits digits
  pub some : 1 ≤ length digits
  pub few : length digits ≤ 3
  pub scales : by ≡ scale negative (number_after 0 digits)
  pub is : text ≡ letter ∷ (sign ++ digits)

-- an optional exponent
abbrev pub IsExponent : Scale → List ℕ → Type 0
IsExponent by text = ((by ≡ scale false 0) × (text ≡ [])) ⊎ HasExponent by text

-- The text is an optional sign, digits, an optional fraction and an optional exponent, with at least one digit before
-- or after the point, and d is the decimal that it denotes.
pub record Spells (text : List ℕ) (d : Decimal) : Type 0 where
  pub sign : List ℕ
  pub whole : List ℕ
  pub part : List ℕ
  pub fraction : List ℕ
  pub tail : List ℕ
  pub by : Scale
  pub is_sign : IsSign d.negative sign
  pub are_digits : AreDigits whole
  pub is_fraction : IsFraction part fraction
  pub is_exponent : IsExponent by tail
  pub some : 1 ≤ length whole + length part
  pub is : text ≡ sign ++ (whole ++ (fraction ++ tail))
  pub number : d.digits ≡ number_after (number_after 0 whole) part
  pub up : d.up ≡ by.up
  pub down : d.down ≡ length part + by.down

-- a text parses as a decimal exactly if it has 1 to 64 bytes and the grammar accepts it
abbrev pub DecimalIsSpelled : Type 0
DecimalIsSpelled = (text : List ℕ) (d : Decimal) → (decimal text ≡ Some d) ↔ (Spells text d × (1 ≤ length text) × (length text ≤ 64))
