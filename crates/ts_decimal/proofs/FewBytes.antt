-- The value of a short text: digits, with or without a point.
use Rattle.std.proofs.Common.{◌≡◌, ℕ, ◌+◌, ◌-◌, ◌*◌, ◌^◌, ◌<◌, ◌≤◌, Bool, false, List, [], ◌∷◌, length, take, drop, get_or, suc, refl, sym, ap, ◌∙◌, inl, add-zero, arith}
use Rattle.std.proofs.Math.Seq.{take-length}
use Rattle.std.proofs.Math.Nat.{mul-le-mul_right, mul_right_comm, le-mul_of_pos_right}
use Rattle.std.specs.declared.option.Option.TheVariants.{Some}
use Rattle.ts_spec.specs.Value.{POINT, scale, joined, exponent, fraction, after_fraction, digits, after_digits, number_after, nearest, decimal_of}
use Rattle.ts_decimal.specs.Leading.{Leads}
use Rattle.ts_decimal.specs.Reading.{IsRounded}
use Rattle.ts_decimal.proofs.Kept.{more_places, tens_positive}
use Rattle.ts_decimal.proofs.Nearest.{raised}
use Rattle.ts_decimal.proofs.Scaling.{tens_grow, within_bound}
use Rattle.ts_decimal.proofs.Spelled.{joined_read}

pub none_from : (xs : List ℕ) → length xs ≡ 0 → xs ≡ []
none_from [] h = refl
none_from (x ∷ xs) h = absurd (omega (arith, h))

pub point_rest : (rest : List ℕ) → 1 ≤ length rest → get_or rest 0 0 ≡ POINT → rest ≡ POINT ∷ take (length rest - 1) (drop 1 rest)
point_rest [] some e = absurd (omega (arith, some))
point_rest (x ∷ xs) some e =
    let less : suc (length xs) - 1 ≡ length xs = omega arith in
    ap (λ x. x ∷ xs) e ∙ ap (λ xs. POINT ∷ xs) (sym (take-length xs) ∙ ap (λ n. take n xs) (sym less))

-- one more digit is read
pub room-step : (n d k : ℕ) → d < 10 → (n + 1) * 10 ^ (k + 1) ≤ 10 ^ 12 → (10 * n + d + 1) * 10 ^ k ≤ 10 ^ 12
room-step n d k less room =
    omega (arith, more_places (n + 1) k, mul-le-mul_right (10 ^ k) (let e : 10 * n + d + 1 ≤ (n + 1) * 10 = omega arith in e), mul_right_comm (n + 1) 10 (10 ^ k))

pub small-number : (n k : ℕ) → (n + 1) * 10 ^ k ≤ 10 ^ 12 → n < 10 ^ 12
small-number n k room = omega (arith, le-mul_of_pos_right (n + 1) (tens_positive k))

pub start-room : (k : ℕ) → k ≤ 12 → (0 + 1) * 10 ^ k ≤ 10 ^ 12
start-room k few = omega (arith, tens_grow k 12 few)

pub product-small : (n k : ℕ) → n < 10 ^ 12 → k ≤ 6 → n * 10 ^ k ≤ 10 ^ 18
product-small n k small few =
    let at_most : n ≤ 10 ^ 12 = omega (arith, small) in
    omega (arith, mul-le-mul_right (10 ^ k) at_most, tens_grow k 6 few)

-- so many millionths
pub rounds : (n p k : ℕ) → n < 10 ^ 12 → p + k ≡ 6 → nearest (n * 10 ^ 6) (10 ^ p) ≡ n * 10 ^ k
rounds n p k small e =
    let near : k ≤ 24 = omega arith in
    let far : 12 ≤ 24 - k = omega arith in
    let within : n ≤ 10 ^ (24 - k) = omega (arith, small, tens_grow 12 (24 - k) far) in
    let leads : Leads n 0 n = record { low = omega arith; high = omega arith; kept = inl refl; small = omega (arith, small) } in
    (raised n n 0 6 p k leads e).exact (within_bound n k near within)

pub pointed_read : (negative : Bool) (text part : List ℕ) → after_digits text ≡ POINT ∷ part → after_digits part ≡ [] → 1 ≤ length (digits text) + length (digits part)
    → decimal_of negative text ≡ Some (record { negative = negative; digits = number_after (number_after 0 (digits text)) (digits part); up = 0; down = length (digits part) })
pointed_read negative text part point none some =
    ap (λ t. joined negative (digits text) (fraction t) (exponent (after_fraction t))) point
    ∙ ap (λ t. joined negative (digits text) (digits part) (exponent t)) none
    ∙ joined_read negative (digits text) (digits part) (scale false 0) some
    ∙ ap (λ n. Some (record { negative = negative; digits = number_after (number_after 0 (digits text)) (digits part); up = 0; down = n })) (add-zero (length (digits part)))

pub pointed_rounded : (negative : Bool) (text part : List ℕ) (n k : ℕ) → n ≡ number_after (number_after 0 (digits text)) (digits part) → n < 10 ^ 12
    → after_digits text ≡ POINT ∷ part → after_digits part ≡ [] → 1 ≤ length (digits text) + length (digits part) → length (digits part) + k ≡ 6
    → IsRounded negative (n * 10 ^ k) (decimal_of negative text)
pointed_rounded negative text part n k e small point none some places = record {
  decimal = record { negative = negative; digits = number_after (number_after 0 (digits text)) (digits part); up = 0; down = length (digits part) };
  is = pointed_read negative text part point none some;
  sign = refl;
  nearest = ap (λ n. nearest (n * 10 ^ 6) (10 ^ length (digits part))) (sym e) ∙ rounds n (length (digits part)) k small places;
}
