-- The value of a text, case by case.
use Rattle.std.proofs.Common.{◌≡◌, ℕ, zero, suc, ◌<◌, ◌≤◌, Bool, true, false, List, length, refl, sym, ap, arith}
use Rattle.std.specs.Prelude.{ℤ, unsigned_abs, ◌==◌, nat_le}
use Rattle.std.specs.declared.option.Option.{Option}
use Rattle.std.specs.declared.option.Option.TheVariants.{Some}
use Rattle.std.specs.declared.result.Result.TheVariants.{Err, Ok}
use Rattle.std.proofs.lemmas.Bool.Decides.{nat_tests}
use Rattle.ts_spec.specs.declared.units.ValueFault.TheVariants.{NotANumber, OutOfRange}
use Rattle.ts_spec.specs.Value.{Decimal, bound, signed, millionths, rounded, decimal, decimal_of, is_negative, unsigned, value}
use Rattle.ts_decimal.specs.Reading.{in_range_of}

pub at_most : (n : ℕ) → n ≤ bound → nat_le n bound ≡ true
at_most n h = grind (arith, nat_tests)

above : (n : ℕ) → bound < n → nat_le n bound ≡ false
above n h = grind (arith, nat_tests)

pub value-empty : (text : List ℕ) → length text ≡ 0 → value text ≡ Err NotANumber
unfolding value decimal
value-empty text h = rw h refl

pub value-long : (text : List ℕ) → 64 < length text → value text ≡ Err NotANumber
unfolding value decimal
value-long text h =
    let e : nat_le (length text) 64 ≡ false = grind (arith, nat_tests) in
    let f : nat_le 1 (length text) ≡ true = grind (arith, nat_tests) in
    rw (f, e) refl

pub value-is : (text : List ℕ) → 0 < length text → length text ≤ 64 → (d : Option Decimal) → decimal_of (is_negative text) (unsigned text) ≡ d → value text ≡ rounded d
unfolding value decimal
value-is text some few d h =
    let e : nat_le (length text) 64 ≡ true = grind (arith, nat_tests) in
    let f : nat_le 1 (length text) ≡ true = grind (arith, nat_tests) in
    rw (f, e) (ap rounded h)

pub rounded-large : (d : Decimal) → bound < millionths d → rounded (Some d) ≡ Err OutOfRange
rounded-large d h = rw (above (millionths d) h) refl

pub unsigned_abs-signed : (negative : Bool) (n : ℕ) → unsigned_abs (signed negative n) ≡ n
unsigned_abs-signed true zero = refl
unsigned_abs-signed true (suc n) = refl
unsigned_abs-signed false n = refl

pub in_range-signed : (negative : Bool) (d : Decimal) (m : ℕ) → negative ≡ d.negative → millionths d ≡ m → in_range_of (signed negative m) ≡ rounded (Some d)
in_range-signed negative d m e f = rw (e, sym f, unsigned_abs-signed d.negative (millionths d)) refl

pub in_range-fits : (z : ℤ) → unsigned_abs z ≤ bound → in_range_of z ≡ Ok z
in_range-fits z h = rw (at_most (unsigned_abs z) h) refl

pub empty_from : (n : ℕ) (b : Bool) → b ≡ (n == 0) → b ≡ true → n ≡ 0
empty_from n b e h = grind (arith, nat_tests)

pub some_from : (n : ℕ) (b : Bool) → b ≡ (n == 0) → b ≡ false → 0 < n
some_from n b e h = grind (arith, nat_tests)
