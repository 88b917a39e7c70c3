-- A text that the grammar accepts parses as the decimal of its parts.
use Rattle.std.proofs.Common.{◌≡◌, ℕ, ◌+◌, ◌≤◌, ◌⊎◌, inl, inr, Bool, true, false, ◌||◌, List, [], ◌∷◌, ◌++◌, length, refl, sym, ◌∙◌, ap, append-nil, arith}
use Rattle.std.specs.Prelude.{◌==◌, nat_le}
use Rattle.std.specs.List.{list_all}
use Rattle.std.specs.declared.option.Option.TheVariants.{Some}
use Rattle.std.proofs.lemmas.Bool.Decides.{nat_tests}
use Rattle.ts_spec.specs.Wire.{is_digit}
use Rattle.ts_spec.specs.Value.{Decimal, Scale, joined, exponent, decimal, decimal_of, is_negative, unsigned, digits, after_digits, fraction, after_fraction, number_after, is_short}
use Rattle.ts_decimal.specs.Grammar.{IsSign, AreDigits, IsFraction, IsExponent, Spells}
use Rattle.ts_decimal.proofs.ReadBack.{digits-append, after_digits-append, unsigned-plain}

-- ---- what is read of the pieces

all_of : (ds : List ℕ) → AreDigits ds → list_all is_digit ds ≡ true
all_of [] h = refl
all_of (d ∷ ds) h = rw (h.0, all_of ds h.1) refl

is_short_of : (ds : List ℕ) → AreDigits ds → 1 ≤ length ds → length ds ≤ 3 → is_short ds ≡ true
is_short_of ds h some few =
    let e : nat_le 1 (length ds) ≡ true = grind (arith, nat_tests) in
    let f : nat_le (length ds) 3 ≡ true = grind (arith, nat_tests) in
    rw (e, f, all_of ds h) refl

-- a text that begins with no sign keeps what is before it
record IsPlain (text : List ℕ) : Type 0 where
  positive : is_negative text ≡ false
  whole : unsigned text ≡ text

sign_read : (negative : Bool) (sign body : List ℕ) → IsSign negative sign → IsPlain body → (is_negative (sign ++ body) ≡ negative) × (unsigned (sign ++ body) ≡ body)
sign_read negative sign body (inl h) plain = rw (h.0, h.1) (plain.positive, plain.whole)
sign_read negative sign body (inr (inl h)) plain = rw (h.0, h.1) (refl, refl)
sign_read negative sign body (inr (inr h)) plain = rw (h.0, h.1) (refl, refl)

digits_plain : (ds rest : List ℕ) → AreDigits ds → 1 ≤ length ds → IsPlain (ds ++ rest)
digits_plain ds rest h some = let e = unsigned-plain ds rest h some in record { positive = e.0; whole = e.1 }

letter_tested : (letter : ℕ) → (letter ≡ 101) ⊎ (letter ≡ 69) → (letter == 101 || letter == 69) ≡ true
letter_tested letter (inl e) = rw e refl
letter_tested letter (inr e) = rw e refl

exponent_read : (by : Scale) (text : List ℕ) → IsExponent by text → exponent text ≡ Some by
exponent_read by text (inl h) = rw (h.0, h.1) refl
exponent_read by text (inr h) =
    let plain = digits_plain h.digits [] h.are_digits h.some in
    let bare : IsPlain h.digits = rw append-nil at plain in
    let read = sign_read h.negative h.sign h.digits h.is_sign bare in
    rw (h.is, letter_tested h.letter h.is_letter, read.0, read.1, is_short_of h.digits h.are_digits h.some h.few) (ap Some (sym h.scales))

-- no digit and no point begins an exponent
exponent_begins : (by : Scale) (text : List ℕ) → IsExponent by text → (digits text ≡ []) × (after_digits text ≡ text) × (fraction text ≡ []) × (after_fraction text ≡ text)
exponent_begins by text (inl h) = rw h.1 (refl, refl, refl, refl)
exponent_begins by text (inr h) = elim h.is_letter [
  | inl e ↦ rw (h.is, e) (refl, refl, refl, refl)
  | inr e ↦ rw (h.is, e) (refl, refl, refl, refl)
]

body_plain : (whole part mark tail : List ℕ) → AreDigits whole → IsFraction part mark → 1 ≤ length whole + length part → IsPlain (whole ++ (mark ++ tail))
body_plain [] part mark tail h (inl f) some = let e = ap length f.0 in absurd (omega arith)
body_plain [] part mark tail h (inr f) some = rw f.1 (record { positive = refl; whole = refl })
body_plain (w ∷ ws) part mark tail h f some = digits_plain (w ∷ ws) (mark ++ tail) h (omega arith)

fraction_read : (part mark tail : List ℕ) (by : Scale) → IsFraction part mark → IsExponent by tail
    → (digits (mark ++ tail) ≡ []) × (after_digits (mark ++ tail) ≡ mark ++ tail) × (fraction (mark ++ tail) ≡ part) × (after_fraction (mark ++ tail) ≡ tail)
fraction_read part mark tail by (inl f) h = rw (f.0, f.1) (exponent_begins by tail h)
fraction_read part mark tail by (inr f) h =
    let begins = exponent_begins by tail h in
    rw f.1 (refl, refl, digits-append part tail f.0 ∙ ap (λ t. part ++ t) begins.0 ∙ append-nil part, after_digits-append part tail f.0 ∙ begins.1)

decimal_sized : (text : List ℕ) → 1 ≤ length text → length text ≤ 64 → decimal text ≡ decimal_of (is_negative text) (unsigned text)
unfolding decimal
decimal_sized text some few =
    let e : nat_le 1 (length text) ≡ true = grind (arith, nat_tests) in
    let f : nat_le (length text) 64 ≡ true = grind (arith, nat_tests) in
    rw (e, f) refl

-- the decimal of these pieces
abbrev pub put_together : Bool → List ℕ → List ℕ → Scale → Decimal
put_together negative whole part by = record { negative = negative; digits = number_after (number_after 0 whole) part; up = by.up; down = length part + by.down }

pub joined_read : (negative : Bool) (whole part : List ℕ) (by : Scale) → 1 ≤ length whole + length part → joined negative whole part (Some by) ≡ Some (put_together negative whole part by)
joined_read negative whole part by some = let e : nat_le 1 (length whole + length part) ≡ true = grind (arith, nat_tests) in rw e refl

body_read : (negative : Bool) (whole part mark tail : List ℕ) (by : Scale) → AreDigits whole → IsFraction part mark → IsExponent by tail → 1 ≤ length whole + length part
    → decimal_of negative (whole ++ (mark ++ tail)) ≡ Some (put_together negative whole part by)
body_read negative whole part mark tail by h f x some =
    let read = fraction_read part mark tail by f x in
    let front : digits (whole ++ (mark ++ tail)) ≡ whole = digits-append whole (mark ++ tail) h ∙ ap (λ t. whole ++ t) read.0 ∙ append-nil whole in
    let rest : after_digits (whole ++ (mark ++ tail)) ≡ mark ++ tail = after_digits-append whole (mark ++ tail) h ∙ read.1 in
    ap (λ ds. joined negative ds (fraction (after_digits (whole ++ (mark ++ tail)))) (exponent (after_fraction (after_digits (whole ++ (mark ++ tail)))))) front
    ∙ ap (λ t. joined negative whole (fraction t) (exponent (after_fraction t))) rest
    ∙ ap (λ ds. joined negative whole ds (exponent (after_fraction (mark ++ tail)))) read.2
    ∙ ap (λ t. joined negative whole part (exponent t)) read.3
    ∙ ap (joined negative whole part) (exponent_read by tail x)
    ∙ joined_read negative whole part by some

pub spelled_is_read : (text : List ℕ) (d : Decimal) → Spells text d → 1 ≤ length text → length text ≤ 64 → decimal text ≡ Some d
spelled_is_read text d h some few =
    let plain = body_plain h.whole h.part h.fraction h.tail h.are_digits h.is_fraction h.some in
    let read = sign_read d.negative h.sign (h.whole ++ (h.fraction ++ h.tail)) h.is_sign plain in
    let same : put_together d.negative h.whole h.part h.by ≡ d = rw (sym h.number, sym h.up, sym h.down) refl in
    decimal_sized text some few
    ∙ ap (λ t. decimal_of (is_negative t) (unsigned t)) h.is
    ∙ ap (λ b. decimal_of b (unsigned (h.sign ++ (h.whole ++ (h.fraction ++ h.tail))))) read.0
    ∙ ap (decimal_of d.negative) read.1
    ∙ body_read d.negative h.whole h.part h.fraction h.tail h.by h.are_digits h.is_fraction h.is_exponent h.some
    ∙ ap Some same
