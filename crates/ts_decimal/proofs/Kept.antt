-- Adding a digit to a number of which only the leading digits are stored.
use Rattle.std.proofs.Common.{◌≡◌, ℕ, zero, suc, ◌+◌, ◌*◌, ◌^◌, ◌<◌, ◌≤◌, ap, sym, ◌∙◌, inr, add-one, arith}
use Rattle.std.proofs.Math.Nat.{pow-suc, mul_assoc}
use Rattle.ts_decimal.specs.Leading.{Leads}

pub tens_positive : (k : ℕ) → 0 < 10 ^ k
tens_positive zero = omega arith
tens_positive (suc k) = omega (arith, pow-suc 10 k, tens_positive k)

-- ten times as much, by one place more
pub more_places : (a k : ℕ) → a * 10 ^ (k + 1) ≡ a * 10 ^ k * 10
more_places a k = ap (λ p. a * p) (rw add-one (pow-suc 10 k)) ∙ sym (mul_assoc a (10 ^ k) 10)

pub Leads-drop : (first dropped n digit : ℕ) → digit < 10 → 10 ^ 29 ≤ first → Leads first dropped n → Leads first (dropped + 1) (n * 10 + digit)
Leads-drop first dropped n digit less many h = record {
  low = omega (arith, more_places first dropped, h.low);
  high = omega (arith, more_places (first + 1) dropped, h.high);
  kept = inr many;
  small = h.small;
}
