-- Numbers in decimal parse as these numbers.
use Rattle.std.proofs.Common.{◌≡◌, ℕ, zero, suc, ◌+◌, ◌*◌, ◌/◌, ◌%◌, ◌^◌, ◌<◌, ◌≤◌, ◌==◌, ◌&&◌, nat_le, Bool, true, false, if◌then◌else◌, List, [], ◌∷◌, length, Some, refl, ◌∙◌, ap, arith}
use Rattle.std.proofs.lemmas.Bool.{le-leb, leb-true, lt-ltb, eqb-true, ne_eqb, and_parts}
use Rattle.std.proofs.lemmas.Fmt.{length-decimal-le, decimal_nonempty}
use Rattle.std.specs.Prelude.{fold, Ok}
use Rattle.std.specs.List.{list_all}
use Rattle.std.specs.Fmt.{decimal, digits, digits_onto, digit_glyph}
use Rattle.ts_spec.specs.Number.{digits_number, number}
use Rattle.std.specs.Str.{bytes_eq}
use Rattle.ts_spec.specs.declared.command.At.TheVariants.{Time}
use Rattle.ts_spec.specs.Sample.{MAX_TIME}
use Rattle.ts_spec.specs.Settings.{time_word, end_word, at_word}
use Rattle.ts_spec.specs.Wire.{is_digit, digit_of}

-- a number goes on by a digit
abbrev next : ℕ → ℕ → ℕ
next n byte = 10 * n + digit_of byte

glyph-of : (d : ℕ) → d < 10 → digit_glyph false d ≡ 48 + d
glyph-of d h = ap (λ b. if b then 48 + d else 87 + d) (lt-ltb d 10 h)

last-digit : (n : ℕ) → n % 10 < 10
last-digit n = omega arith

is-digit : (d : ℕ) → d < 10 → is_digit (48 + d) ≡ true
is-digit d h = ap (λ b. b && nat_le (48 + d) 57) (le-leb 48 (48 + d) (omega arith)) ∙ ap (λ b. true && b) (le-leb (48 + d) 57 (omega arith))

-- the digits that are put before others spell the number, with which those others go on
onto-number : (k n : ℕ) (rest : List ℕ) → n < 10 ^ k → fold next 0 (digits_onto k 10 false n rest) ≡ fold next n rest
onto-number zero n rest h = ap (λ m. fold next m rest) (omega arith)
onto-number (suc k) n rest h =
    go (n / 10 == 0) refl (digit_glyph false (n % 10)) (glyph-of (n % 10) (last-digit n)) (λ small. onto-number k (n / 10) (digit_glyph false (n % 10) ∷ rest) small)
  where
    go : (b : Bool) → (n / 10 == 0) ≡ b → (g : ℕ) → g ≡ 48 + n % 10
        → (n / 10 < 10 ^ k → fold next 0 (digits_onto k 10 false (n / 10) (g ∷ rest)) ≡ fold next (n / 10) (g ∷ rest))
        → fold next 0 (if b then g ∷ rest else digits_onto k 10 false (n / 10) (g ∷ rest)) ≡ fold next n rest
    go true e g is before =
        let none : n / 10 ≡ 0 = eqb-true (n / 10) 0 e in
        let all : 10 * 0 + digit_of g ≡ n = omega arith in
        ap (λ m. fold next m rest) all
    go false e g is before =
        let all : 10 * (n / 10) + digit_of g ≡ n = omega arith in
        before (omega arith) ∙ ap (λ m. fold next m rest) all

onto-digits : (k n : ℕ) (rest : List ℕ) → list_all is_digit rest ≡ true → list_all is_digit (digits_onto k 10 false n rest) ≡ true
onto-digits zero n rest h = h
onto-digits (suc k) n rest h = go (n / 10 == 0) more (onto-digits k (n / 10) (digit_glyph false (n % 10) ∷ rest) more)
  where
    more : list_all is_digit (digit_glyph false (n % 10) ∷ rest) ≡ true
    more =
        ap (λ g. list_all is_digit (g ∷ rest)) (glyph-of (n % 10) (last-digit n)) ∙ ap (λ b. b && list_all is_digit rest) (is-digit (n % 10) (last-digit n)) ∙ h

    go : (b : Bool) → list_all is_digit (digit_glyph false (n % 10) ∷ rest) ≡ true
        → list_all is_digit (digits_onto k 10 false (n / 10) (digit_glyph false (n % 10) ∷ rest)) ≡ true
        → list_all is_digit (if b then digit_glyph false (n % 10) ∷ rest else digits_onto k 10 false (n / 10) (digit_glyph false (n % 10) ∷ rest)) ≡ true
    go true one others = one
    go false one others = others

pub number-of : (n : ℕ) → n < 10 ^ 64 → digits_number (decimal n) ≡ n
unfolding digits
number-of n h = onto-number 64 n [] h

pub all-digits : (n : ℕ) → list_all is_digit (decimal n) ≡ true
unfolding digits
all-digits n = onto-digits 64 n [] refl

-- a number up to the greatest time reads back from its decimal
pub number-decimal : (n : ℕ) → n ≤ MAX_TIME → number (decimal n) ≡ Some n
number-decimal n h =
    let value = number-of n (omega arith) in
    let some : nat_le 1 (length (decimal n)) ≡ true = le-leb 1 (length (decimal n)) (omega (arith, decimal_nonempty n (omega arith))) in
    let few : nat_le (length (decimal n)) 19 ≡ true = le-leb (length (decimal n)) 19 (length-decimal-le 19 n (omega arith) (omega arith) (omega arith)) in
    let small : nat_le n MAX_TIME ≡ true = le-leb n MAX_TIME h in
    rw (some, few, all-digits n, value, small) refl

-- a word of digits is none of one byte that is no digit
pub no-digit : (word : List ℕ) (byte : ℕ) → byte < 48 → list_all is_digit word ≡ true → bytes_eq word (byte ∷ []) ≡ false
no-digit [] byte small h = refl
no-digit (b ∷ word) byte small h =
    let digit = and_parts (is_digit b) (list_all is_digit word) h in
    let from : 48 ≤ b = leb-true 48 b (and_parts (nat_le 48 b) (nat_le b 57) digit.0).0 in
    ap (λ c. c && bytes_eq word []) (ne_eqb b byte (λ e. omega arith))

pub time-decimal : (n : ℕ) → n ≤ MAX_TIME → time_word (decimal n) ≡ Ok n
unfolding time_word
time-decimal n h = rw (number-decimal n h) refl

-- a time that is an end of an interval
pub end-decimal : (n : ℕ) → n ≤ MAX_TIME → end_word (decimal n) ≡ Ok n
unfolding end_word
end-decimal n h = rw (no-digit (decimal n) 45 (omega arith) (all-digits n), no-digit (decimal n) 43 (omega arith) (all-digits n)) (time-decimal n h)

-- a time of a sample
pub at-decimal : (n : ℕ) → n ≤ MAX_TIME → at_word (decimal n) ≡ Ok (Time n)
unfolding at_word
at-decimal n h = rw (no-digit (decimal n) 42 (omega arith) (all-digits n), time-decimal n h) refl
