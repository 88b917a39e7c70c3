-- The laws of the values of texts.
use Rattle.std.proofs.Common.{◌≡◌, ℕ, ◌+◌, ◌*◌, ◌<◌, ◌≤◌, inl, inr, Bool, true, false, cond, List, refl, sym, ◌∙◌, ap, arith}
use Rattle.std.specs.Prelude.{ℤ, unsigned_abs, nat_le}
use Rattle.std.specs.declared.option.Option.{Option}
use Rattle.std.specs.declared.option.Option.TheVariants.{None, Some}
use Rattle.std.specs.declared.result.Result.TheVariants.{Err, Ok}
use Rattle.std.proofs.Math.Nat.{div-mul-le_self, lt-div-mul-add, mul-le-mul_right, not-le_of_lt, le_refl, le_of_lt, le_antisymm}
use Rattle.std.proofs.lemmas.Bool.{cases_order}
use Rattle.std.proofs.lemmas.Bool.Decides.{nat_tests}
use Rattle.ts_spec.specs.declared.units.ValueFault.{ValueFault}
use Rattle.ts_spec.specs.declared.units.ValueFault.TheVariants.{NotANumber, OutOfRange}
use Rattle.ts_spec.specs.Value.{Decimal, bound, nearest, signed, millionths, rounded, decimal, value}
use Rattle.ts_decimal.specs.Laws.{distance, over, under, IsNearest, ValueIsNearest, OutOfRangeIsAbove, NotANumberIsNoDecimal}
use Rattle.ts_decimal.proofs.Kept.{tens_positive}
use Rattle.ts_decimal.proofs.Values.{unsigned_abs-signed, rounded-large}

-- x is less than a half of e above n, or a half, and less than a half below it
record IsWithinHalf (x n e : ℕ) : Type 0 where
  low : 2 * x ≤ 2 * n + e
  high : 2 * n + e < 2 * x + 2 * e

nearest-half : (n d : ℕ) → 0 < d → IsWithinHalf (nearest n d * d) n d
nearest-half n d some =
    let positive : 0 < 2 * d = omega arith in
    let low = div-mul-le_self (2 * n + d) (2 * d) in
    let high = lt-div-mul-add {a = 2 * n + d} positive in
    record { low = grind (arith, low); high = grind (arith, high) }

below_is_farther : (x y n e : ℕ) → IsWithinHalf x n e → y + e ≤ x → distance x n ≤ distance y n
below_is_farther x y n e h far = omega (arith, h.low, h.high)

above_is_farther : (x y n e : ℕ) → IsWithinHalf x n e → x + e ≤ y → distance x n < distance y n
above_is_farther x y n e h far = omega (arith, h.low, h.high)

steps : (k m e : ℕ) → k < m → k * e + e ≤ m * e
steps k m e h = let f : (k + 1) * e ≤ m * e = mul-le-mul_right e (let g : k + 1 ≤ m = omega arith in g) in grind (arith, f)

none_nearer : (k m n e : ℕ) → IsWithinHalf (m * e) n e → distance (m * e) n ≤ distance (k * e) n
none_nearer k m n e h =
    elim (cases_order k m) [
      | inl same ↦ rw same (le_refl (distance (m * e) n))
      | inr (inl less) ↦ below_is_farther (m * e) (k * e) n e h (steps k m e less)
      | inr (inr more) ↦ le_of_lt (above_is_farther (m * e) (k * e) n e h (steps m k e more))
    ]

away : (k m n e : ℕ) → IsWithinHalf (m * e) n e → distance (k * e) n ≡ distance (m * e) n → k ≤ m
away k m n e h same =
    elim (cases_order k m) [
      | inl equal ↦ omega arith
      | inr (inl less) ↦ le_of_lt less
      | inr (inr more) ↦ absurd (not-le_of_lt (above_is_farther (m * e) (k * e) n e h (steps m k e more)) (rw same (le_refl (distance (m * e) n))))
    ]

pub millionths_nearest : (d : Decimal) → IsNearest (millionths d) d
millionths_nearest d =
    let half : IsWithinHalf (millionths d * under d) (over d) (under d) = nearest-half (over d) (under d) (tens_positive d.down) in
    record {
      none_nearer = λ k. none_nearer k (millionths d) (over d) (under d) half;
      away = λ k same. away k (millionths d) (over d) (under d) half same;
    }

nearest-unique : (d : Decimal) (m k : ℕ) → IsNearest m d → IsNearest k d → m ≡ k
nearest-unique d m k g h =
    let same : distance (k * under d) (over d) ≡ distance (m * under d) (over d) = le_antisymm (h.none_nearer m) (g.none_nearer k) in
    le_antisymm (h.away m (sym same)) (g.away k same)

value_of : (text : List ℕ) → value text ≡ rounded (decimal text)
unfolding value
value_of text = refl

fits-answer : (b : Bool) (z w : ℤ) → cond b (Ok w) (Err OutOfRange) ≡ Ok z → z ≡ w
fits-answer true z w h = cc
fits-answer false z w h = cc

above_bound : (n : ℕ) → nat_le n bound ≡ false → bound < n
above_bound n h = grind (arith, nat_tests)

no_fault : (w : ℤ) (f : ValueFault) → Ok w ≡ Err f → ⊥
no_fault w f h = cc

large-answer : (b : Bool) (n : ℕ) (w : ℤ) → nat_le n bound ≡ b → cond b (Ok w) (Err OutOfRange) ≡ Err OutOfRange → bound < n
large-answer true n w e h = absurd (no_fault w OutOfRange h)
large-answer false n w e h = above_bound n e

pub value_is_nearest : ValueIsNearest
value_is_nearest text d z spelled answer =
    let is : z ≡ signed d.negative (millionths d) = fits-answer (nat_le (millionths d) bound) z (signed d.negative (millionths d)) (sym (value_of text ∙ ap rounded spelled) ∙ answer) in
    let size : unsigned_abs z ≡ millionths d = ap unsigned_abs is ∙ unsigned_abs-signed d.negative (millionths d) in
    (rw size (millionths_nearest d), is ∙ ap (signed d.negative) (sym size))

pub out_of_range_is_above : OutOfRangeIsAbove
out_of_range_is_above text d m spelled nearest =
    let same : m ≡ millionths d = nearest-unique d m (millionths d) nearest (millionths_nearest d) in (
      λ answer. rw same (large-answer (nat_le (millionths d) bound) (millionths d) (signed d.negative (millionths d)) refl (sym (value_of text ∙ ap rounded spelled) ∙ answer)),
      λ large. value_of text ∙ ap rounded spelled ∙ rounded-large d (rw same at large),
    )

never_no_number : (b : Bool) (w : ℤ) → cond b (Ok w) (Err OutOfRange) ≡ Err NotANumber → ⊥
never_no_number true w h = cc
never_no_number false w h = cc

spells_none : (o : Option Decimal) → rounded o ≡ Err NotANumber → o ≡ None
spells_none None h = refl
spells_none (Some d) h = absurd (never_no_number (nat_le (millionths d) bound) (signed d.negative (millionths d)) h)

pub not_a_number_is_no_decimal : NotANumberIsNoDecimal
not_a_number_is_no_decimal text = (λ answer. spells_none (decimal text) (sym (value_of text) ∙ answer), λ none. value_of text ∙ ap rounded none)
