-- A decimal as the parser stores it: by its leading digits.
use Rattle.std.specs.Prelude.{◌≡◌, ℕ, ℤ, Bool, nat_le, unsigned_abs, if◌then◌else◌}
use Rattle.std.specs.declared.option.Option.{Option}
use Rattle.std.specs.declared.option.Option.TheVariants.{Some}
use Rattle.std.specs.declared.result.Result.{Result}
use Rattle.std.specs.declared.result.Result.TheVariants.{Err, Ok}
use Rattle.ts_spec.specs.Value.{Decimal, bound, millionths}
use Rattle.ts_spec.specs.declared.units.ValueFault.{ValueFault}
use Rattle.ts_spec.specs.declared.units.ValueFault.TheVariants.{OutOfRange}
use Rattle.ts_decimal.specs.Leading.{Leads}

-- the text's decimal has this sign, these powers of ten and these leading digits
pub record IsSpelled (negative : Bool) (first dropped up down : ℕ) (spelled : Option Decimal) : Type 0 where
  pub digits : ℕ
  pub begin : Leads first dropped digits
  pub is : spelled ≡ Some (record { negative = negative; digits = digits; up = up; down = down })

-- the text's decimal has this sign, and its magnitude rounds to m millionths
pub record IsRounded (negative : Bool) (m : ℕ) (spelled : Option Decimal) : Type 0 where
  pub decimal : Decimal
  pub is : spelled ≡ Some decimal
  pub sign : negative ≡ decimal.negative
  pub nearest : millionths decimal ≡ m

-- a number of millionths as a value, or `OutOfRange`
abbrev pub in_range_of : ℤ → Result ℤ ValueFault
in_range_of z = if nat_le (unsigned_abs z) bound then Ok z else Err OutOfRange
