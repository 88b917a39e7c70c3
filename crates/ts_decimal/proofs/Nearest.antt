-- Rounding to the nearest whole number, and a decimal's millionths from its leading digits.
use Rattle.std.proofs.Common.{◌≡◌, ℕ, zero, suc, ◌+◌, ◌*◌, ◌/◌, ◌^◌, ◌<◌, ◌≤◌, inl, inr, ap, sym, ◌∙◌, lit<, arith}
use Rattle.std.specs.Prelude.{MatchOption, IfSome}
use Rattle.std.specs.declared.option.Option.{Option}
use Rattle.std.specs.declared.option.Option.TheVariants.{None, Some}
use Rattle.std.proofs.Math.Nat.{pow-suc, mul_assoc, mul_comm, mul-le-mul_right, div-eq_of_lt-le, le-div_iff_mul-le, div-mul-le_self, lt-div-mul-add, le-mul_of_pos_right, mul-lt-mul_of_pos_right, not-le_of_lt, le_trans}
use Rattle.std.proofs.lemmas.Nat.{pow-add}
use Rattle.ts_spec.specs.Value.{bound, nearest}
use Rattle.ts_decimal.specs.Leading.{Leads}
use Rattle.ts_decimal.proofs.Kept.{tens_positive}

-- the nearest whole number is the one whose distance is at most a half, above where it is a half
pub nearest-is : (n d q : ℕ) → 2 * (q * d) ≤ 2 * n + d → 2 * n + d < 2 * (q * d) + 2 * d → nearest n d ≡ q
nearest-is n d q low high =
    div-eq_of_lt-le (2 * d) (let e : q * (2 * d) ≤ 2 * n + d = grind arith in e) (let e : 2 * n + d < (q + 1) * (2 * d) = grind arith in e)

pub nearest-whole : (q d : ℕ) → 0 < d → nearest (q * d) d ≡ q
nearest-whole q d some = nearest-is (q * d) d q (omega arith) (omega arith)

pub nearest-above : (q n d : ℕ) → 0 < d → q * d ≤ n → q ≤ nearest n d
nearest-above q n d some low =
    let positive : 0 < 2 * d = omega arith in (le-div_iff_mul-le positive).1 (let e : q * (2 * d) ≤ 2 * n + d = grind (arith, low) in e)

-- first and a half of 2 h, over 2 h, where m over p begins with first
pub nearest-first : (first m p h q : ℕ) → 0 < p → first * p ≤ m → m < (first + 1) * p → q * (2 * h) ≤ first + h → first + h < q * (2 * h) + 2 * h → nearest m (2 * h * p) ≡ q
nearest-first first m p h q some low high below above =
    let down : q * (2 * h) * p ≤ (first + h) * p = mul-le-mul_right p below in
    let up : (first + h + 1) * p ≤ (q * (2 * h) + 2 * h) * p = mul-le-mul_right p (let e : first + h + 1 ≤ q * (2 * h) + 2 * h = omega arith in e) in
    nearest-is m (2 * h * p) q (grind (arith, down, low)) (grind (arith, up, high))

pub half_of_ten : (k : ℕ) → 0 < k → 2 * (10 ^ k / 2) ≡ 10 ^ k
half_of_ten zero some = omega arith
half_of_ten (suc k) some = omega (arith, pow-suc 10 k)

-- A decimal of these digits, scaled by ten to the power up over ten to the power down: it is first times ten to the
-- power k, or too large.
pub record IsRaised (n first up down k : ℕ) : Type 0 where
  pub large : bound < first * 10 ^ k → bound < nearest (n * 10 ^ up) (10 ^ down)
  pub exact : first * 10 ^ k ≤ bound → nearest (n * 10 ^ up) (10 ^ down) ≡ first * 10 ^ k

powers : (dropped up down k : ℕ) → down + k ≡ dropped + up → 10 ^ dropped * 10 ^ up ≡ 10 ^ down * 10 ^ k
powers dropped up down k e = sym (pow-add 10 dropped up) ∙ ap (λ i. 10 ^ i) (sym e) ∙ pow-add 10 down k

raised-low : (n first r u d k : ℕ) → first * r ≤ n → r * u ≡ d * k → first * k * d ≤ n * u
raised-low n first r u d k low e = let more : first * r * u ≤ n * u = mul-le-mul_right u low in grind (arith, more, e)

alone : (n first r : ℕ) → r ≡ 1 → first * r ≤ n → n < (first + 1) * r → n ≡ first
alone n first r e low high = grind (arith, e)

raised-exact : (n first dropped up down k : ℕ) → Leads first dropped n → dropped ≡ 0 → down + k ≡ dropped + up → n * 10 ^ up ≡ first * 10 ^ k * 10 ^ down
raised-exact n first dropped up down k h none e =
    let one : 10 ^ dropped ≡ 1 = ap (λ i. 10 ^ i) none in
    let same : n ≡ first = alone n first (10 ^ dropped) one h.low h.high in
    grind (arith, powers dropped up down k e)

pub raised : (n first dropped up down k : ℕ) → Leads first dropped n → down + k ≡ dropped + up → IsRaised n first up down k
raised n first dropped up down k h e = record {
  large = λ above.
      let least : first * 10 ^ k ≤ nearest (n * 10 ^ up) (10 ^ down) =
      nearest-above (first * 10 ^ k) (n * 10 ^ up) (10 ^ down) (tens_positive down) (raised-low n first (10 ^ dropped) (10 ^ up) (10 ^ down) (10 ^ k) h.low (powers dropped up down k e)) in
      le_trans above least;
  exact = λ within.
      elim h.kept [
        | inl none ↦ rw (raised-exact n first dropped up down k h none e) (nearest-whole (first * 10 ^ k) (10 ^ down) (tens_positive down))
        | inr many ↦ absurd (not-le_of_lt (le_trans (lit< tt) (le_trans many (le-mul_of_pos_right first (tens_positive k)))) within)
      ];
}

nearest-lower : (first m p h t d : ℕ) → 0 < p → 0 < t → 2 * h ≡ t → d ≡ t * p → first * p ≤ m → m < (first + 1) * p → nearest m d ≡ (first + h) / t
nearest-lower first m p h t d some positive two whole low high =
    let below : (first + h) / t * (2 * h) ≤ first + h = rw two (div-mul-le_self (first + h) t) in
    let above : first + h < (first + h) / t * (2 * h) + 2 * h = rw two (lt-div-mul-add positive) in
    let wide : d ≡ 2 * h * p = whole ∙ ap (λ x. x * p) (sym two) in
    rw wide (nearest-first first m p h ((first + h) / t) some low high below above)

-- the same where the scale is ten to the power k below: it is first over that power, rounded
pub lowered : (n first dropped up down k : ℕ) → 0 < k → Leads first dropped n → dropped + up + k ≡ down → nearest (n * 10 ^ up) (10 ^ down) ≡ (first + 10 ^ k / 2) / 10 ^ k
lowered n first dropped up down k some h e =
    let place : 10 ^ (dropped + up) ≡ 10 ^ dropped * 10 ^ up = pow-add 10 dropped up in
    let over : (a : ℕ) → a * 10 ^ (dropped + up) ≡ a * 10 ^ dropped * 10 ^ up = λ a. ap (λ x. a * x) place ∙ sym (mul_assoc a (10 ^ dropped) (10 ^ up)) in
    let whole : 10 ^ down ≡ 10 ^ k * 10 ^ (dropped + up) = ap (λ i. 10 ^ i) (sym e) ∙ pow-add 10 (dropped + up) k ∙ mul_comm (10 ^ (dropped + up)) (10 ^ k) in
    let low : first * 10 ^ dropped * 10 ^ up ≤ n * 10 ^ up = mul-le-mul_right (10 ^ up) h.low in
    let high : n * 10 ^ up < (first + 1) * 10 ^ dropped * 10 ^ up = mul-lt-mul_of_pos_right h.high (tens_positive up) in
    nearest-lower first (n * 10 ^ up) (10 ^ (dropped + up)) (10 ^ k / 2) (10 ^ k) (10 ^ down) (tens_positive (dropped + up)) (tens_positive k) (half_of_ten k some) whole
    (omega (arith, low, over first)) (omega (arith, high, over (first + 1)))

-- what a scaling that gives up past the bound tells of it
pub raised-gives : (n first up down k : ℕ) (r : Option ℕ) → IsRaised n first up down k
    → MatchOption r (bound < first * 10 ^ k) (λ m. m ≡ first * 10 ^ k) → IfSome r (λ m. m ≤ bound)
    → MatchOption r (bound < nearest (n * 10 ^ up) (10 ^ down)) (λ m. nearest (n * 10 ^ up) (10 ^ down) ≡ m)
raised-gives n first up down k None h given within = h.large given
raised-gives n first up down k (Some m) h given within = h.exact (rw (sym given) within) ∙ sym given
