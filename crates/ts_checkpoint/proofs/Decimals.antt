-- Numbers in decimal parse as these numbers.
use Rattle.std.proofs.Common.{◌≡◌, ℕ, zero, suc, ◌+◌, ◌*◌, ◌^◌, ◌<◌, ◌≤◌, ◌&&◌, nat_le, Bool, true, if◌then◌else◌, List, [], ◌∷◌, length, Some, refl, sym, ◌∙◌, ap, arith}
use Rattle.std.proofs.lemmas.Bool.{le-leb, leb-true, ne_eqb, and_parts}
use Rattle.std.proofs.lemmas.Fmt.{length-decimal-le_wide, decimal_nonempty}
use Rattle.std.specs.Prelude.{ℤ, pos, negsuc, neg_ℤ, unsigned_abs, option_map}
use Rattle.std.specs.List.{list_all}
use Rattle.std.specs.Fmt.{decimal, signed_decimal}
use Rattle.ts_spec.specs.Number.{digits_number}
use Rattle.ts_spec.specs.Sample.{MAX_TIME}
use Rattle.ts_spec.specs.Value.{bound, shown_value}
use Rattle.ts_spec.specs.Wire.{is_digit}
use Rattle.ts_decimal.proofs.ReadBack.{value_of_shown}
use Rattle.ts_journal.proofs.Numbers.{number-of, all-digits, no-digit}
use Rattle.ts_checkpoint.specs.Numbers.{whole, number_in, time_or_none, time_word, integer, valid_value, value_in}

some-digit : (n : ℕ) → n < 10 ^ 64 → 1 ≤ length (decimal n)
some-digit n h = go (decimal n) refl
  where
    go : (word : List ℕ) → decimal n ≡ word → 1 ≤ length word
    go [] e =
        let none : n ≡ 0 = sym (number-of n h) ∙ ap digits_number e in
        let some : 0 < length (decimal n) = decimal_nonempty n (omega (arith, none)) in
        let empty : length (decimal n) ≡ 0 = ap length e in
        omega (arith, some, empty)
    go (b ∷ word) e = omega arith

pub whole-decimal : (n : ℕ) → n < 10 ^ 38 → whole (decimal n) ≡ Some n
unfolding whole
whole-decimal n h =
    let value = number-of n (omega arith) in
    let some : nat_le 1 (length (decimal n)) ≡ true = le-leb 1 (length (decimal n)) (some-digit n (omega arith)) in
    let few : nat_le (length (decimal n)) 38 ≡ true = le-leb (length (decimal n)) 38 (length-decimal-le_wide 38 n (omega arith) h (omega arith)) in
    rw (some, few, all-digits n, value) refl

pub number-decimal : (least most n : ℕ) → n < 10 ^ 38 → least ≤ n → n ≤ most → number_in least most (decimal n) ≡ Some n
unfolding number_in
number-decimal least most n small from to = rw (whole-decimal n small, le-leb least n from, le-leb n most to) refl

pub some-time-read : (t : ℕ) → t ≤ MAX_TIME → time_or_none (time_word (Some t)) ≡ Some (Some t)
unfolding time_or_none
some-time-read t h = rw (no-digit (decimal t) 45 (omega arith) (all-digits t), number-decimal 0 MAX_TIME t (omega arith) (omega arith) h) refl

-- a word that begins with no minus is read as it is
unsigned-read : (word : List ℕ) → list_all is_digit word ≡ true → 1 ≤ length word → integer word ≡ option_map pos (whole word)
unfolding integer
unsigned-read [] h some = absurd (omega arith)
unsigned-read (b ∷ word) h some =
    let digit = and_parts (is_digit b) (list_all is_digit word) h in
    let from : 48 ≤ b = leb-true 48 b (and_parts (nat_le 48 b) (nat_le b 57) digit.0).0 in
    ap (λ c. if c then option_map (λ n. neg_ℤ (pos n)) (whole word) else option_map pos (whole (b ∷ word))) (ne_eqb b 45 (λ e. omega arith))

pub integer-read : (z : ℤ) → unsigned_abs z < 10 ^ 38 → integer (signed_decimal z) ≡ Some z
unfolding integer
integer-read (pos n) h = unsigned-read (decimal n) (all-digits n) (some-digit n (omega arith)) ∙ ap (λ o. option_map pos o) (whole-decimal n h)
integer-read (negsuc n) h = ap (λ o. option_map (λ m. neg_ℤ (pos m)) o) (whole-decimal (suc n) h)

pub value-read : (v : ℤ) → unsigned_abs v ≤ bound → value_in (shown_value v) ≡ Some v
unfolding value_in
value-read v h = ap valid_value (value_of_shown v h)
