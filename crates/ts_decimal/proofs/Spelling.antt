-- A text that parses as a decimal is accepted by the grammar, with the parts of that decimal.
use Rattle.std.proofs.Common.{◌≡◌, ℕ, ◌+◌, ◌≤◌, ◌⊎◌, inl, inr, Bool, true, false, cond, ◌&&◌, ◌||◌, List, [], ◌∷◌, ◌++◌, length, refl, sym, ◌∙◌, ap, subst, arith}
use Rattle.std.specs.Prelude.{◌==◌, nat_le}
use Rattle.std.specs.List.{list_all}
use Rattle.std.specs.declared.option.Option.{Option}
use Rattle.std.specs.declared.option.Option.TheVariants.{None, Some}
use Rattle.std.proofs.lemmas.Bool.Decides.{nat_tests}
use Rattle.ts_spec.specs.Wire.{is_digit}
use Rattle.ts_spec.specs.Value.{Decimal, Scale, joined, exponent, decimal, decimal_of, is_negative, unsigned, digits, after_digits, fraction, after_fraction, number_after, is_short, scale}
use Rattle.ts_decimal.specs.Grammar.{IsSign, AreDigits, IsFraction, HasExponent, IsExponent, Spells, DecimalIsSpelled}
use Rattle.ts_decimal.proofs.Spelled.{put_together, spelled_is_read}

split_at : (test : Bool) (b : ℕ) (bs : List ℕ) → digits bs ++ after_digits bs ≡ bs → cond test (b ∷ digits bs) [] ++ cond test (after_digits bs) (b ∷ bs) ≡ b ∷ bs
split_at true b bs h = ap (λ t. b ∷ t) h
split_at false b bs h = refl

split_digits : (text : List ℕ) → digits text ++ after_digits text ≡ text
split_digits [] = refl
split_digits (b ∷ bs) = split_at (is_digit b) b bs (split_digits bs)

digits_at : (test : Bool) (b : ℕ) (bs : List ℕ) → is_digit b ≡ test → AreDigits (digits bs) → AreDigits (cond test (b ∷ digits bs) [])
digits_at true b bs e h = (e, h)
digits_at false b bs e h = tt

digits_are_digits : (text : List ℕ) → AreDigits (digits text)
digits_are_digits [] = tt
digits_are_digits (b ∷ bs) = digits_at (is_digit b) b bs refl (digits_are_digits bs)

record HasSign (negative : Bool) (text body : List ℕ) : Type 0 where
  sign : List ℕ
  is_sign : IsSign negative sign
  is : text ≡ sign ++ body

equal_from : (b k : ℕ) → (b == k) ≡ true → b ≡ k
equal_from b k h = grind (arith, nat_tests)

sign_at : (plus minus : Bool) (b : ℕ) (bs : List ℕ) → (b == 43) ≡ plus → (b == 45) ≡ minus → HasSign minus (b ∷ bs) (cond (plus || minus) bs (b ∷ bs))
sign_at false false b bs p m = record { sign = []; is_sign = inl (refl, refl); is = refl }
sign_at false true b bs p m = record { sign = 45 ∷ []; is_sign = inr (inr (refl, refl)); is = ap (λ x. x ∷ bs) (equal_from b 45 m) }
sign_at true false b bs p m = record { sign = 43 ∷ []; is_sign = inr (inl (refl, refl)); is = ap (λ x. x ∷ bs) (equal_from b 43 p) }
sign_at true true b bs p m = let e = equal_from b 43 p in let f = equal_from b 45 m in absurd (omega arith)

sign_of : (text : List ℕ) → HasSign (is_negative text) text (unsigned text)
sign_of [] = record { sign = []; is_sign = inl (refl, refl); is = refl }
sign_of (b ∷ bs) = sign_at (b == 43) (b == 45) b bs refl refl

record HasMark (part rest tail : List ℕ) : Type 0 where
  mark : List ℕ
  is_fraction : IsFraction part mark
  is : rest ≡ mark ++ tail

mark_at : (test : Bool) (b : ℕ) (bs : List ℕ) → (b == 46) ≡ test → HasMark (cond test (digits bs) []) (b ∷ bs) (cond test (after_digits bs) (b ∷ bs))
mark_at true b bs e = record {
  mark = 46 ∷ digits bs;
  is_fraction = inr (digits_are_digits bs, refl);
  is = ap (λ x. x ∷ bs) (equal_from b 46 e) ∙ ap (λ t. 46 ∷ t) (sym (split_digits bs));
}
mark_at false b bs e = record { mark = []; is_fraction = inl (refl, refl); is = refl }

mark_of : (rest : List ℕ) → HasMark (fraction rest) rest (after_fraction rest)
mark_of [] = record { mark = []; is_fraction = inl (refl, refl); is = refl }
mark_of (b ∷ bs) = mark_at (b == 46) b bs refl

no_decimal : {X : Type 0} {x : X} → None ≡ Some x → ⊥
no_decimal h = cc

never : false ≡ true → ⊥
never h = cc

both_of : (a b : Bool) → (a && b) ≡ true → (a ≡ true) × (b ≡ true)
both_of true b h = (refl, h)
both_of false b h = absurd (never h)

at_most_of : (a b : ℕ) → nat_le a b ≡ true → a ≤ b
at_most_of a b h = grind (arith, nat_tests)

some_same : {X : Type 0} {x y : X} → Some x ≡ Some y → x ≡ y
some_same h = cc

all_digits : (ds : List ℕ) → list_all is_digit ds ≡ true → AreDigits ds
all_digits [] h = tt
all_digits (d ∷ ds) h = let both = both_of (is_digit d) (list_all is_digit ds) h in (both.0, all_digits ds both.1)

record IsShort (ds : List ℕ) : Type 0 where
  are_digits : AreDigits ds
  some : 1 ≤ length ds
  few : length ds ≤ 3

short_of : (ds : List ℕ) → is_short ds ≡ true → IsShort ds
short_of ds h =
    let outer = both_of (nat_le 1 (length ds) && nat_le (length ds) 3) (list_all is_digit ds) h in
    let inner = both_of (nat_le 1 (length ds)) (nat_le (length ds) 3) outer.0 in
    record { are_digits = all_digits ds outer.1; some = at_most_of 1 (length ds) inner.0; few = at_most_of (length ds) 3 inner.1 }

letter_of : (e f : Bool) (b : ℕ) → (b == 101) ≡ e → (b == 69) ≡ f → (e || f) ≡ true → (b ≡ 101) ⊎ (b ≡ 69)
letter_of true f b p q h = inl (equal_from b 101 p)
letter_of false true b p q h = inr (equal_from b 69 q)
letter_of false false b p q h = absurd (never h)

exponent_at : (letter short : Bool) (by : Scale) (b : ℕ) (bs : List ℕ) → (b == 101 || b == 69) ≡ letter → is_short (unsigned bs) ≡ short
    → cond (letter && short) (Some (scale (is_negative bs) (number_after 0 (unsigned bs)))) None ≡ Some by → HasExponent by (b ∷ bs)
exponent_at true true by b bs p q h =
    let s = sign_of bs in
    let short = short_of (unsigned bs) q in
    record {
      letter = b;
      negative = is_negative bs;
      sign = s.sign;
      digits = unsigned bs;
      is_letter = letter_of (b == 101) (b == 69) b refl refl p;
      is_sign = s.is_sign;
      are_digits = short.are_digits;
      some = short.some;
      few = short.few;
      scales = some_same (sym h);
      is = ap (λ t. b ∷ t) s.is;
    }
exponent_at true false by b bs p q h = absurd (no_decimal h)
exponent_at false short by b bs p q h = absurd (no_decimal h)

exponent_of : (by : Scale) (text : List ℕ) → exponent text ≡ Some by → IsExponent by text
exponent_of by [] h = inl (some_same (sym h), refl)
exponent_of by (b ∷ bs) h = inr (exponent_at (b == 101 || b == 69) (is_short (unsigned bs)) by b bs refl refl h)

record IsJoined (negative : Bool) (whole part : List ℕ) (o : Option Scale) (d : Decimal) : Type 0 where
  by : Scale
  scales : o ≡ Some by
  some : 1 ≤ length whole + length part
  is : put_together negative whole part by ≡ d

joined_at : (test negative : Bool) (whole part : List ℕ) (by : Scale) (d : Decimal) → nat_le 1 (length whole + length part) ≡ test
    → cond test (Some (put_together negative whole part by)) None ≡ Some d → IsJoined negative whole part (Some by) d
joined_at true negative whole part by d e h = record { by = by; scales = refl; some = at_most_of 1 (length whole + length part) e; is = some_same h }
joined_at false negative whole part by d e h = absurd (no_decimal h)

joined_of : (negative : Bool) (whole part : List ℕ) (o : Option Scale) (d : Decimal) → joined negative whole part o ≡ Some d → IsJoined negative whole part o d
joined_of negative whole part None d h = absurd (no_decimal h)
joined_of negative whole part (Some by) d h = joined_at (nat_le 1 (length whole + length part)) negative whole part by d refl h

record IsSized (text : List ℕ) (d : Decimal) : Type 0 where
  some : 1 ≤ length text
  few : length text ≤ 64
  is : decimal_of (is_negative text) (unsigned text) ≡ Some d

sized_at : (some few : Bool) (text : List ℕ) (d : Decimal) → nat_le 1 (length text) ≡ some → nat_le (length text) 64 ≡ few
    → cond (some && few) (decimal_of (is_negative text) (unsigned text)) None ≡ Some d → IsSized text d
sized_at true true text d p q h = record { some = at_most_of 1 (length text) p; few = at_most_of (length text) 64 q; is = h }
sized_at true false text d p q h = absurd (no_decimal h)
sized_at false few text d p q h = absurd (no_decimal h)

sized_of : (text : List ℕ) (d : Decimal) → decimal text ≡ Some d → IsSized text d
unfolding decimal
sized_of text d h = sized_at (nat_le 1 (length text)) (nat_le (length text) 64) text d refl refl h

read_is_spelled : (text : List ℕ) (d : Decimal) → IsSized text d → Spells text d
read_is_spelled text d sized =
    let s = sign_of text in
    let body = unsigned text in
    let rest = after_digits body in
    let m = mark_of rest in
    let j = joined_of (is_negative text) (digits body) (fraction rest) (exponent (after_fraction rest)) d sized.is in
    let P : Decimal → Type 0 = λ e. Spells text e in
    subst P j.is (record {
      sign = s.sign;
      whole = digits body;
      part = fraction rest;
      fraction = m.mark;
      tail = after_fraction rest;
      by = j.by;
      is_sign = s.is_sign;
      are_digits = digits_are_digits body;
      is_fraction = m.is_fraction;
      is_exponent = exponent_of j.by (after_fraction rest) j.scales;
      some = j.some;
      is = s.is ∙ ap (λ t. s.sign ++ t) (sym (split_digits body) ∙ ap (λ t. digits body ++ t) m.is);
      number = refl;
      up = refl;
      down = refl;
    })

pub decimal_is_spelled : DecimalIsSpelled
decimal_is_spelled text d =
    (λ h. let sized = sized_of text d h in (read_is_spelled text d sized, sized.some, sized.few), λ h. spelled_is_read text d h.0 h.1 h.2)
