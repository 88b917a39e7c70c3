-- What holds for decimal texts, independent of the code.
use Rattle.std.specs.Prelude.{◌≡◌, ℕ, ◌+◌, ◌-◌, ◌*◌, ◌^◌, ◌≤◌, ◌<◌, ℤ, unsigned_abs, List, ◌↔◌}
use Rattle.std.specs.declared.option.Option.TheVariants.{None, Some}
use Rattle.std.specs.declared.result.Result.TheVariants.{Err, Ok}
use Rattle.ts_spec.specs.declared.units.ValueFault.TheVariants.{NotANumber, OutOfRange}
use Rattle.ts_spec.specs.Value.{Decimal, PLACES, bound, signed, decimal, value, shown_value}

-- printing a value and parsing the text gives the value back
abbrev pub ReadsBack : Type 0
ReadsBack = (z : ℤ) → unsigned_abs z ≤ bound → value (shown_value z) ≡ Ok z

-- the distance of two numbers
abbrev pub distance : ℕ → ℕ → ℕ
distance a b = (a - b) + (b - a)

-- a decimal in millionths is the fraction over / under
abbrev pub over : Decimal → ℕ
over d = d.digits * 10 ^ (d.up + PLACES)

abbrev pub under : Decimal → ℕ
under d = 10 ^ d.down

-- m is the whole number of millionths nearest to the decimal's magnitude, and the larger one on a tie
pub record IsNearest (m : ℕ) (d : Decimal) : Type 0 where
  pub none_nearer : (k : ℕ) → distance (m * under d) (over d) ≤ distance (k * under d) (over d)
  pub away : (k : ℕ) → distance (k * under d) (over d) ≡ distance (m * under d) (over d) → k ≤ m

-- parsing gives the nearest value, with the sign of the text
abbrev pub ValueIsNearest : Type 0
ValueIsNearest = (text : List ℕ) (d : Decimal) (z : ℤ) → decimal text ≡ Some d → value text ≡ Ok z → IsNearest (unsigned_abs z) d × (z ≡ signed d.negative (unsigned_abs z))

-- `OutOfRange` means that the nearest whole number of millionths exceeds the bound
abbrev pub OutOfRangeIsAbove : Type 0
OutOfRangeIsAbove = (text : List ℕ) (d : Decimal) (m : ℕ) → decimal text ≡ Some d → IsNearest m d → (value text ≡ Err OutOfRange) ↔ (bound < m)

-- `NotANumber` means that the text is no decimal
abbrev pub NotANumberIsNoDecimal : Type 0
NotANumberIsNoDecimal = (text : List ℕ) → (value text ≡ Err NotANumber) ↔ (decimal text ≡ None)
