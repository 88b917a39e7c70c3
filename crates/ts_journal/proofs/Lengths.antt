-- The lengths of numbers and values as arguments.
use Rattle.std.proofs.Common.{◌≡◌, ℕ, zero, suc, ◌+◌, ◌/◌, ◌%◌, ◌^◌, ◌<◌, ◌≤◌, List, [], ◌∷◌, length, map, refl, ◌∙◌, ap, length-append, arith}
use Rattle.std.proofs.lemmas.Fmt.{length-decimal-le}
use Rattle.std.proofs.lemmas.Int.Digits.{length-digits_of-le}
use Rattle.std.specs.Fmt.{decimal}
use Rattle.std.specs.Int.Digits.{digits_of}
use Rattle.std.specs.Prelude.{pos, negsuc, ℤ}
use Rattle.ts_decimal.proofs.Texts.{enough}
use Rattle.ts_spec.specs.Value.{bound, places, shown_whole, shown_fraction, shown_magnitude, shown_value}
use Rattle.ts_journal.proofs.Readable.{IsBounded}

pub length-number : (n : ℕ) → n < 10 ^ 19 → length (decimal n) ≤ 19
length-number n h = length-decimal-le 19 n (omega arith) h (omega arith)

length-glyphs : (digits : List ℕ) → length (map (λ d. 48 + d) digits) ≡ length digits
length-glyphs [] = refl
length-glyphs (d ∷ digits) = ap suc (length-glyphs digits)

length-whole : (n : ℕ) → n < 10 ^ 19 → length (shown_whole n) ≤ 19
unfolding shown_whole
length-whole zero h = omega arith
length-whole (suc n) h =
    let same = ap (λ ds. length (map (λ d. 48 + d) ds)) (enough 64 (suc n) (omega arith)) ∙ length-glyphs (digits_of 10 (suc n)) in
    let few = length-digits_of-le 10 19 (suc n) (omega arith) h in
    omega (arith, same, few)

length-places : (k n : ℕ) → length (places k n) ≤ k
length-places k zero = omega arith
length-places zero (suc n) = omega arith
length-places (suc k) (suc n) = let e = length-places k (suc n % 10 ^ k) in omega arith

length-fraction : (n : ℕ) → length (shown_fraction n) ≤ 7
length-fraction zero = omega arith
length-fraction (suc n) = let e = length-places 6 (suc n) in omega arith

length-magnitude : (n : ℕ) → n ≤ bound → length (shown_magnitude n) ≤ 26
length-magnitude n h =
    let few : n / 10 ^ 6 < 10 ^ 19 = omega arith in
    let whole = length-whole (n / 10 ^ 6) few in
    let part = length-fraction (n % 10 ^ 6) in
    let all = length-append (shown_whole (n / 10 ^ 6)) (shown_fraction (n % 10 ^ 6)) in
    omega arith

pub length-value : (v : ℤ) → IsBounded v → length (shown_value v) ≤ 27
unfolding shown_value
length-value (pos n) h = let few = length-magnitude n h in omega arith
length-value (negsuc n) h = let few = length-magnitude (suc n) h in omega arith
