-- The leading digits of a number, scaled by a power of ten, against the bound of values.
use Rattle.std.proofs.Common.{◌≡◌, ℕ, ◌+◌, ◌-◌, ◌*◌, ◌/◌, ◌^◌, ◌<◌, ◌≤◌, ap, sym, ◌∙◌, arith}
use Rattle.std.proofs.Math.Nat.{mul-le-mul_right, mul-lt-mul_of_pos_right, le-mul_of_pos_right, div-eq_of_lt}
use Rattle.std.proofs.lemmas.Nat.{pow-add}
use Rattle.ts_spec.specs.Value.{bound}
use Rattle.ts_decimal.proofs.Kept.{tens_positive}
use Rattle.ts_decimal.proofs.Nearest.{half_of_ten}

pub tens_grow : (i j : ℕ) → i ≤ j → 10 ^ i ≤ 10 ^ j
tens_grow i j h =
    let e : 10 ^ j ≡ 10 ^ i * 10 ^ (j - i) = ap (λ x. 10 ^ x) (omega arith) ∙ pow-add 10 i (j - i) in
    omega (arith, e, le-mul_of_pos_right (10 ^ i) (tens_positive (j - i)))

pub nothing_left : (first k : ℕ) → first < 10 ^ 30 → 30 < k → 0 ≡ (first + 10 ^ k / 2) / 10 ^ k
nothing_left first k kept far = sym (div-eq_of_lt (omega (arith, kept, tens_grow 31 k far, half_of_ten k (omega arith))))

places : (k : ℕ) → k ≤ 24 → 10 ^ (24 - k) * 10 ^ k ≡ bound
places k h = let e : 24 - k + k ≡ 24 = omega arith in sym (pow-add 10 (24 - k) k) ∙ ap (λ x. 10 ^ x) e

pub too_far : (first k : ℕ) → (first ≡ 0 → ⊥) → 24 < k → bound < first * 10 ^ k
too_far first k some far =
    let one : 0 < first = omega arith in
    omega (arith, tens_grow 25 k far, mul-le-mul_right (10 ^ k) one)

pub too_large : (first k : ℕ) → k ≤ 24 → 10 ^ (24 - k) < first → bound < first * 10 ^ k
too_large first k near large = omega (arith, places k near, mul-lt-mul_of_pos_right large (tens_positive k))

pub within_bound : (first k : ℕ) → k ≤ 24 → first ≤ 10 ^ (24 - k) → first * 10 ^ k ≤ bound
within_bound first k near small = omega (arith, places k near, mul-le-mul_right (10 ^ k) small)
