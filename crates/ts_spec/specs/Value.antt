-- Values: whole numbers of millionths, and their decimal texts.
use Rattle.std.specs.Prelude.{ℕ, zero, suc, ◌+◌, ◌*◌, ◌/◌, ◌%◌, ◌^◌, min, Bool, false, ◌&&◌, ◌||◌, ◌==◌, nat_le, if◌then◌else◌, ℤ, pos, negsuc, neg_ℤ, List, [], ◌∷◌, ◌++◌, map, length}
use Rattle.std.specs.declared.option.Option.{Option}
use Rattle.std.specs.declared.option.Option.TheVariants.{None, Some}
use Rattle.std.specs.declared.result.Result.{Result}
use Rattle.std.specs.declared.result.Result.TheVariants.{Err, Ok}
use Rattle.std.specs.Int.Digits.{number_from_digits_after, digits_with_fuel}
use Rattle.std.specs.List.{list_all}
use Rattle.ts_spec.specs.Wire.{MINUS, is_digit, digit_of}
use Rattle.ts_spec.specs.declared.units.ValueFault.{ValueFault}
use Rattle.ts_spec.specs.declared.units.ValueFault.TheVariants.{NotANumber, OutOfRange}

-- the number of decimal places
abbrev pub PLACES : ℕ
PLACES = 6

-- the greatest magnitude of a value, in millionths
abbrev pub bound : ℕ
bound = 10 ^ 24

-- n / d, rounded half up
abbrev pub nearest : ℕ → ℕ → ℕ
nearest n d = (2 * n + d) / (2 * d)

-- a number with this sign and magnitude
abbrev pub signed : Bool → ℕ → ℤ
signed negative n = if negative then neg_ℤ (pos n) else pos n

-- n / d, rounded half away from zero
unfoldable pub div_round : ℤ → ℕ → ℤ
div_round (pos n) d = pos (nearest n d)
div_round (negsuc n) d = neg_ℤ (pos (nearest (suc n) d))

-- a number, clamped to the range of values
unfoldable pub clamp : ℤ → ℤ
clamp (pos n) = pos (min n bound)
clamp (negsuc n) = neg_ℤ (pos (min (suc n) bound))

-- the bytes that a decimal text names, beside digits
abbrev pub PLUS : ℕ
PLUS = 43

abbrev pub POINT : ℕ
POINT = 46

-- A parsed decimal: its digits without the point, times 10^up / 10^down.
pub record Decimal : Type 0 where
  pub negative : Bool
  -- the digits at the start of a text
  pub digits : ℕ
  pub up : ℕ
  pub down : ℕ

-- the factor 10^up / 10^down
pub record Scale : Type 0 where
  pub up : ℕ
  pub down : ℕ

-- whether a text begins with a minus
abbrev pub is_negative : List ℕ → Bool
is_negative [] = false
is_negative (byte ∷ _) = byte == MINUS

-- a text without its sign
abbrev pub unsigned : List ℕ → List ℕ
unsigned [] = []
unsigned (byte ∷ bytes) = if byte == PLUS || byte == MINUS then bytes else byte ∷ bytes

-- the digits that a text begins with
abbrev pub digits : List ℕ → List ℕ
digits [] = []
digits (byte ∷ bytes) = if is_digit byte then byte ∷ digits bytes else []

-- the text after those digits
abbrev pub after_digits : List ℕ → List ℕ
after_digits [] = []
after_digits (byte ∷ bytes) = if is_digit byte then after_digits bytes else byte ∷ bytes

-- the digits after a decimal point, if the text begins with one
abbrev pub fraction : List ℕ → List ℕ
fraction [] = []
fraction (byte ∷ bytes) = if byte == POINT then digits bytes else []

-- the text after the point and its digits
abbrev pub after_fraction : List ℕ → List ℕ
after_fraction [] = []
after_fraction (byte ∷ bytes) = if byte == POINT then after_digits bytes else byte ∷ bytes

-- the number n followed by these digits
abbrev pub number_after : ℕ → List ℕ → ℕ
number_after n bytes = number_from_digits_after 10 n (map digit_of bytes)

-- whether a text is one to three digits
abbrev pub is_short : List ℕ → Bool
is_short bytes = nat_le 1 (length bytes) && nat_le (length bytes) 3 && list_all is_digit bytes

-- the factor of an exponent
abbrev pub scale : Bool → ℕ → Scale
scale negative n = if negative then record { up = 0; down = n } else record { up = n; down = 0 }

-- Parses the exponent at the end of a text: nothing, or `e` or `E`, an optional sign, and one to three digits.
abbrev pub exponent : List ℕ → Option Scale
exponent [] = Some (scale false 0)
exponent (byte ∷ bytes) =
    if (byte == 101 || byte == 69) && is_short (unsigned bytes) then Some (scale (is_negative bytes) (number_after 0 (unsigned bytes))) else None

-- the decimal of a sign, the digits before and after the point (at least one in all), and an exponent
abbrev pub joined : Bool → List ℕ → List ℕ → Option Scale → Option Decimal
joined negative whole part None = None
joined negative whole part (Some by) =
    if nat_le 1 (length whole + length part)
    then Some (record { negative = negative; digits = number_after (number_after 0 whole) part; up = by.up; down = length part + by.down })
    else None

-- parses a decimal after its sign
abbrev pub decimal_of : Bool → List ℕ → Option Decimal
decimal_of negative text = let rest = after_digits text in joined negative (digits text) (fraction rest) (exponent (after_fraction rest))

-- Parses a decimal of 1 to 64 bytes.
unfoldable pub decimal : List ℕ → Option Decimal
decimal text = if nat_le 1 (length text) && nat_le (length text) 64 then decimal_of (is_negative text) (unsigned text) else None

-- its magnitude in millionths, rounded half up
abbrev pub millionths : Decimal → ℕ
millionths d = nearest (d.digits * 10 ^ (d.up + PLACES)) (10 ^ d.down)

-- the value of a decimal, if it is in range
abbrev pub rounded : Option Decimal → Result ℤ ValueFault
rounded None = Err NotANumber
rounded (Some d) = if nat_le (millionths d) bound then Ok (signed d.negative (millionths d)) else Err OutOfRange

-- Parses a value, in millionths.
unfoldable pub value : List ℕ → Result ℤ ValueFault
value text = rounded (decimal text)

-- the digits of n / 10^k after the point, without trailing zeros
abbrev pub places : ℕ → ℕ → List ℕ
places k zero = []
places zero (suc n) = []
places (suc k) (suc n) = (48 + suc n / 10 ^ k) ∷ places k (suc n % 10 ^ k)

-- a whole number of at most 64 digits
unfoldable pub shown_whole : ℕ → List ℕ
shown_whole zero = 48 ∷ []
shown_whole (suc n) = map (λ d. 48 + d) (digits_with_fuel 10 64 (suc n))

-- a fraction in millionths with its point, or nothing for 0
abbrev pub shown_fraction : ℕ → List ℕ
shown_fraction zero = []
shown_fraction (suc n) = POINT ∷ places PLACES (suc n)

-- the text of n millionths, without a sign
abbrev pub shown_magnitude : ℕ → List ℕ
shown_magnitude n = shown_whole (n / 10 ^ PLACES) ++ shown_fraction (n % 10 ^ PLACES)

-- The text of a value in millionths.
unfoldable pub shown_value : ℤ → List ℕ
shown_value (pos n) = shown_magnitude n
shown_value (negsuc n) = MINUS ∷ shown_magnitude (suc n)
