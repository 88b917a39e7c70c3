-- Parsing a printed value gives it back.
use Rattle.std.proofs.Common.{◌≡◌, ℕ, zero, suc, ◌+◌, ◌-◌, ◌*◌, ◌/◌, ◌%◌, ◌^◌, ◌<◌, ◌≤◌, Bool, true, false, List, [], ◌∷◌, ◌++◌, map, length, refl, sym, ◌∙◌, ap, add-zero, length-append, append-nil, lit≤, arith}
use Rattle.std.specs.Prelude.{ℤ, pos, negsuc, unsigned_abs, ◌==◌, nat_le}
use Rattle.std.specs.declared.option.Option.TheVariants.{Some}
use Rattle.std.specs.declared.result.Result.TheVariants.{Ok}
use Rattle.std.proofs.Math.Nat.{pow-suc, mul_assoc, mod-lt, mod-eq-sub-div-mul, div-mul-le_self, div-lt_iff_lt-mul}
use Rattle.std.proofs.lemmas.Nat.{pow-add}
use Rattle.std.proofs.lemmas.List.{length-map}
use Rattle.std.proofs.lemmas.Bool.Decides.{nat_tests}
use Rattle.std.proofs.lemmas.Int.Digits.{number_digits_of, all_below_base_digits_of, length-digits_of-le, length-digits_of_step}
use Rattle.std.specs.List.{AllByRecursion}
use Rattle.std.specs.Int.Digits.{digits_of, number_from_digits_after}
use Rattle.ts_spec.specs.Wire.{is_digit, digit_of, MINUS}
use Rattle.ts_spec.specs.Value.{Decimal, bound, nearest, signed, millionths, joined, exponent, decimal_of, is_negative, unsigned, digits, after_digits, fraction, after_fraction, number_after, value, places, shown_whole, shown_fraction, shown_magnitude, shown_value}
use Rattle.ts_decimal.specs.Grammar.{AreDigits}
use Rattle.ts_decimal.proofs.Kept.{tens_positive}
use Rattle.ts_decimal.proofs.Nearest.{nearest-whole}
use Rattle.ts_decimal.proofs.Texts.{digits_text-is, shown_whole-some}
use Rattle.ts_decimal.proofs.Values.{value-is, in_range-signed, in_range-fits, unsigned_abs-signed}

glyph : (d : ℕ) → d < 10 → is_digit (48 + d) ≡ true
glyph d less = grind (arith, nat_tests)

glyphs : (ds : List ℕ) → AllByRecursion (λ d. d < 10) ds → AreDigits (map (λ d. 48 + d) ds)
glyphs [] h = tt
glyphs (d ∷ ds) h = (glyph d h.0, glyphs ds h.1)

unglyph : (ds : List ℕ) → map digit_of (map (λ d. 48 + d) ds) ≡ ds
unglyph [] = refl
unglyph (d ∷ ds) = let e : 48 + d - 48 ≡ d = omega arith in rw e (ap (λ rest. d ∷ rest) (unglyph ds))

-- ---- what is read of digits and the text behind them

pub digits-append : (ds rest : List ℕ) → AreDigits ds → digits (ds ++ rest) ≡ ds ++ digits rest
digits-append [] rest h = refl
digits-append (d ∷ ds) rest h = rw h.0 (ap (λ t. d ∷ t) (digits-append ds rest h.1))

pub after_digits-append : (ds rest : List ℕ) → AreDigits ds → after_digits (ds ++ rest) ≡ after_digits rest
after_digits-append [] rest h = refl
after_digits-append (d ∷ ds) rest h = rw h.0 (after_digits-append ds rest h.1)

digits-all : (ds : List ℕ) → AreDigits ds → digits ds ≡ ds
digits-all [] h = refl
digits-all (d ∷ ds) h = rw h.0 (ap (λ t. d ∷ t) (digits-all ds h.1))

after_digits-all : (ds : List ℕ) → AreDigits ds → after_digits ds ≡ []
after_digits-all [] h = refl
after_digits-all (d ∷ ds) h = rw h.0 (after_digits-all ds h.1)

not_plus : (byte : ℕ) → is_digit byte ≡ true → (byte == 43) ≡ false
not_plus byte h = grind (arith, nat_tests)

not_minus : (byte : ℕ) → is_digit byte ≡ true → (byte == 45) ≡ false
not_minus byte h = grind (arith, nat_tests)

pub unsigned-plain : (ds rest : List ℕ) → AreDigits ds → 1 ≤ length ds → (is_negative (ds ++ rest) ≡ false) × (unsigned (ds ++ rest) ≡ ds ++ rest)
unsigned-plain [] rest h some = absurd (omega arith)
unsigned-plain (d ∷ ds) rest h some = (not_minus d h.0, rw (not_plus d h.0, not_minus d h.0) refl)

-- ---- the whole part

shown_whole-zero : shown_whole 0 ≡ 48 ∷ []
unfolding shown_whole
shown_whole-zero = refl

shown_whole-glyphs : (n : ℕ) → 0 < n → n < 10 ^ 64 → shown_whole n ≡ map (λ d. 48 + d) (digits_of 10 n)
shown_whole-glyphs n some small = shown_whole-some n some ∙ digits_text-is n small

whole_digits : (n : ℕ) → n < 10 ^ 64 → AreDigits (shown_whole n)
whole_digits zero small = rw shown_whole-zero (refl, tt)
whole_digits (suc n) small = rw (shown_whole-glyphs (suc n) (omega arith) small) (glyphs (digits_of 10 (suc n)) (all_below_base_digits_of 10 (suc n) (lit≤ tt)))

whole_number : (n : ℕ) → n < 10 ^ 64 → number_after 0 (shown_whole n) ≡ n
whole_number zero small = rw shown_whole-zero refl
whole_number (suc n) small =
    ap (number_after 0) (shown_whole-glyphs (suc n) (omega arith) small)
    ∙ ap (number_from_digits_after 10 0) (unglyph (digits_of 10 (suc n)))
    ∙ number_digits_of 10 (suc n) (lit≤ tt)

whole_length : (n : ℕ) → n < 10 ^ 19 → (1 ≤ length (shown_whole n)) × (length (shown_whole n) ≤ 19)
whole_length zero small = rw shown_whole-zero (omega arith, omega arith)
whole_length (suc n) small =
    let e : length (shown_whole (suc n)) ≡ length (digits_of 10 (suc n)) = ap length (shown_whole-glyphs (suc n) (omega arith) (omega arith)) ∙ length-map (digits_of 10 (suc n)) (λ d. 48 + d) in
    let f = length-digits_of_step 10 (suc n) (lit≤ tt) (omega arith) in
    let g = length-digits_of-le 10 19 (suc n) (lit≤ tt) small in
    (omega arith, omega arith)

-- ---- the fraction

places_digits : (k n : ℕ) → n < 10 ^ k → AreDigits (places k n)
places_digits k zero small = tt
places_digits zero (suc n) small = tt
places_digits (suc k) (suc n) small =
    let few : suc n < 10 * 10 ^ k = omega (arith, small, pow-suc 10 k) in
    (glyph (suc n / 10 ^ k) ((div-lt_iff_lt-mul (tens_positive k)).1 few), places_digits k (suc n % 10 ^ k) (mod-lt (suc n) (tens_positive k)))

places_length : (k n : ℕ) → length (places k n) ≤ k
places_length k zero = omega arith
places_length zero (suc n) = omega arith
places_length (suc k) (suc n) = let e = places_length k (suc n % 10 ^ k) in omega arith

moved : (whole q p r n power : ℕ) → power ≡ p * 10 → n ≡ q * p + r → (whole * 10 + q) * p + r ≡ whole * power + n
moved whole q p r n power e f = rw (e, f) (grind arith)

places_number : (k n whole : ℕ) → n < 10 ^ k → number_after whole (places k n) * 10 ^ (k - length (places k n)) ≡ whole * 10 ^ k + n
places_number k zero whole small = let e : k - 0 ≡ k = omega arith in rw e (omega arith)
places_number zero (suc n) whole small = absurd (omega arith)
places_number (suc k) (suc n) whole small =
    let digit : digit_of (48 + suc n / 10 ^ k) ≡ suc n / 10 ^ k = omega arith in
    let left : suc k - suc (length (places k (suc n % 10 ^ k))) ≡ k - length (places k (suc n % 10 ^ k)) = omega arith in
    let more = places_number k (suc n % 10 ^ k) (whole * 10 + suc n / 10 ^ k) (mod-lt (suc n) (tens_positive k)) in
    let split : suc n ≡ suc n / 10 ^ k * 10 ^ k + suc n % 10 ^ k =
    let e = mod-eq-sub-div-mul (suc n) (10 ^ k) in
    let f = div-mul-le_self (suc n) (10 ^ k) in
    omega arith in
    let power = pow-suc 10 k in
    rw (digit, left) (more ∙ moved whole (suc n / 10 ^ k) (10 ^ k) (suc n % 10 ^ k) (suc n) (10 ^ suc k) power split)

fraction_is : (n : ℕ) → n < 10 ^ 6 → (digits (shown_fraction n) ≡ []) × (fraction (after_digits (shown_fraction n)) ≡ places 6 n) × (after_fraction (after_digits (shown_fraction n)) ≡ [])
fraction_is zero small = (refl, refl, refl)
fraction_is (suc n) small = (refl, digits-all (places 6 (suc n)) (places_digits 6 (suc n) small), after_digits-all (places 6 (suc n)) (places_digits 6 (suc n) small))

-- ---- the whole text

-- the decimal of a printed magnitude
abbrev printed_decimal : Bool → ℕ → Decimal
printed_decimal negative m = record {
  negative = negative;
  digits = number_after (number_after 0 (shown_whole (m / 10 ^ 6))) (places 6 (m % 10 ^ 6));
  up = 0;
  down = length (places 6 (m % 10 ^ 6)) + 0;
}

joined-some : (negative : Bool) (whole part : List ℕ) → 1 ≤ length whole
    → joined negative whole part (exponent []) ≡ Some (record { negative = negative; digits = number_after (number_after 0 whole) part; up = 0; down = length part + 0 })
joined-some negative whole part some = let e : nat_le 1 (length whole + length part) ≡ true = grind (arith, nat_tests) in rw e refl

magnitude_decimal : (negative : Bool) (m : ℕ) → m ≤ bound → decimal_of negative (shown_magnitude m) ≡ Some (printed_decimal negative m)
magnitude_decimal negative m within =
    let few : m / 10 ^ 6 < 10 ^ 19 = omega arith in
    let small : m / 10 ^ 6 < 10 ^ 64 = omega arith in
    let shown = whole_digits (m / 10 ^ 6) small in
    let tail = fraction_is (m % 10 ^ 6) (omega arith) in
    let front : digits (shown_magnitude m) ≡ shown_whole (m / 10 ^ 6) =
    digits-append (shown_whole (m / 10 ^ 6)) (shown_fraction (m % 10 ^ 6)) shown ∙ ap (λ t. shown_whole (m / 10 ^ 6) ++ t) tail.0 ∙ append-nil (shown_whole (m / 10 ^ 6)) in
    let rest : after_digits (shown_magnitude m) ≡ after_digits (shown_fraction (m % 10 ^ 6)) = after_digits-append (shown_whole (m / 10 ^ 6)) (shown_fraction (m % 10 ^ 6)) shown in
    ap (λ ds. joined negative ds (fraction (after_digits (shown_magnitude m))) (exponent (after_fraction (after_digits (shown_magnitude m))))) front
    ∙ ap (λ t. joined negative (shown_whole (m / 10 ^ 6)) (fraction t) (exponent (after_fraction t))) rest
    ∙ ap (λ ds. joined negative (shown_whole (m / 10 ^ 6)) ds (exponent (after_fraction (after_digits (shown_fraction (m % 10 ^ 6)))))) tail.1
    ∙ ap (λ t. joined negative (shown_whole (m / 10 ^ 6)) (places 6 (m % 10 ^ 6)) (exponent t)) tail.2
    ∙ joined-some negative (shown_whole (m / 10 ^ 6)) (places 6 (m % 10 ^ 6)) (whole_length (m / 10 ^ 6) few).0

scaled : (n m k len : ℕ) → len ≤ k → n * 10 ^ (k - len) ≡ m → nearest (n * 10 ^ k) (10 ^ (len + 0)) ≡ m
scaled n m k len few e =
    let power : 10 ^ k ≡ 10 ^ (k - len) * 10 ^ len = let f : k ≡ k - len + len = omega arith in ap (λ i. 10 ^ i) f ∙ pow-add 10 (k - len) len in
    let whole : n * 10 ^ k ≡ m * 10 ^ len = ap (λ p. n * p) power ∙ sym (mul_assoc n (10 ^ (k - len)) (10 ^ len)) ∙ ap (λ x. x * 10 ^ len) e in
    rw (add-zero, whole) (nearest-whole m (10 ^ len) (tens_positive len))

magnitude_millionths : (negative : Bool) (m : ℕ) → m ≤ bound → millionths (printed_decimal negative m) ≡ m
magnitude_millionths negative m within =
    let small : m / 10 ^ 6 < 10 ^ 64 = omega arith in
    let number : number_after (number_after 0 (shown_whole (m / 10 ^ 6))) (places 6 (m % 10 ^ 6)) ≡ number_after (m / 10 ^ 6) (places 6 (m % 10 ^ 6)) =
    ap (λ w. number_after w (places 6 (m % 10 ^ 6))) (whole_number (m / 10 ^ 6) small) in
    let all : number_after (m / 10 ^ 6) (places 6 (m % 10 ^ 6)) * 10 ^ (6 - length (places 6 (m % 10 ^ 6))) ≡ m =
    places_number 6 (m % 10 ^ 6) (m / 10 ^ 6) (omega arith) ∙ omega arith in
    ap (λ n. nearest (n * 10 ^ 6) (10 ^ (length (places 6 (m % 10 ^ 6)) + 0))) number
    ∙ scaled (number_after (m / 10 ^ 6) (places 6 (m % 10 ^ 6))) m 6 (length (places 6 (m % 10 ^ 6))) (places_length 6 (m % 10 ^ 6)) all

fraction_length : (n : ℕ) → length (shown_fraction n) ≤ 7
fraction_length zero = omega arith
fraction_length (suc n) = let e = places_length 6 (suc n) in omega arith

magnitude_length : (m : ℕ) → m ≤ bound → (1 ≤ length (shown_magnitude m)) × (length (shown_magnitude m) ≤ 26)
magnitude_length m within =
    let few : m / 10 ^ 6 < 10 ^ 19 = omega arith in
    let whole = whole_length (m / 10 ^ 6) few in
    let part = fraction_length (m % 10 ^ 6) in
    let sum = length-append (shown_whole (m / 10 ^ 6)) (shown_fraction (m % 10 ^ 6)) in
    (omega arith, omega arith)

text_value : (text : List ℕ) (negative : Bool) (m : ℕ) → 0 < length text → length text ≤ 64 → is_negative text ≡ negative → unsigned text ≡ shown_magnitude m → m ≤ bound
    → value text ≡ Ok (signed negative m)
text_value text negative m some few sign body within =
    let spelled = ap (λ b. decimal_of b (unsigned text)) sign ∙ ap (decimal_of negative) body ∙ magnitude_decimal negative m within in
    value-is text some few (Some (printed_decimal negative m)) spelled
    ∙ sym (in_range-signed negative (printed_decimal negative m) m refl (magnitude_millionths negative m within))
    ∙ in_range-fits (signed negative m) (rw unsigned_abs-signed within)

pub value_of_shown : (z : ℤ) → unsigned_abs z ≤ bound → value (shown_value z) ≡ Ok z
unfolding shown_value
value_of_shown (pos n) within =
    let size = magnitude_length n within in
    let few : n / 10 ^ 6 < 10 ^ 19 = omega arith in
    let plain = unsigned-plain (shown_whole (n / 10 ^ 6)) (shown_fraction (n % 10 ^ 6)) (whole_digits (n / 10 ^ 6) (omega arith)) (whole_length (n / 10 ^ 6) few).0 in
    text_value (shown_magnitude n) false n (omega arith) (omega arith) plain.0 plain.1 within
value_of_shown (negsuc n) within =
    let size = magnitude_length (suc n) within in
    text_value (MINUS ∷ shown_magnitude (suc n)) true (suc n) (omega arith) (omega arith) refl refl within
