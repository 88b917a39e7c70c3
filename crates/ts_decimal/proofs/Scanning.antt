-- What one leading digit adds to the parsed number.
use Rattle.std.proofs.Common.{◌≡◌, ℕ, ◌+◌, ◌*◌, ◌^◌, ◌<◌, ◌≤◌, Bool, true, false, cond, ◌&&◌, List, [], ◌∷◌, length, refl, sym, add-one, arith}
use Rattle.std.proofs.lemmas.Bool.Decides.{nat_tests}
use Rattle.std.proofs.Math.Nat.{mul-le-mul_right, mul_right_comm, le-mul_of_pos_right}
use Rattle.std.specs.List.{list_all}
use Rattle.ts_spec.specs.Wire.{is_digit, digit_of}
use Rattle.ts_spec.specs.Value.{digits, after_digits, number_after, is_short}
use Rattle.ts_decimal.specs.Digits.{BeginsWith, HasNoDigit}
use Rattle.ts_decimal.proofs.Kept.{more_places, tens_positive}

is_digit_of : (d : ℕ) → d < 10 → is_digit (48 + d) ≡ true
is_digit_of d less = grind (arith, nat_tests)

digit_of-digit : (d : ℕ) → digit_of (48 + d) ≡ d
digit_of-digit d = omega arith

pub digits-step : {text : List ℕ} {d : ℕ} {after : List ℕ} → BeginsWith text d after → digits text ≡ (48 + d) ∷ digits after
digits-step h = rw (h.split, is_digit_of _ h.small) refl

pub after_digits-step : {text : List ℕ} {d : ℕ} {after : List ℕ} → BeginsWith text d after → after_digits text ≡ after_digits after
after_digits-step h = rw (h.split, is_digit_of _ h.small) refl

pub number_after-step : {text : List ℕ} {d : ℕ} {after : List ℕ} → BeginsWith text d after → (n : ℕ) → number_after n text ≡ number_after (n * 10 + d) after
number_after-step {d = d} h n = rw (h.split, digit_of-digit d) refl

pub number_after-digits-step : {text : List ℕ} {d : ℕ} {after : List ℕ} → BeginsWith text d after → (n : ℕ) → number_after n (digits text) ≡ number_after (n * 10 + d) (digits after)
number_after-digits-step {d = d} h n = rw (digits-step h, digit_of-digit d) refl

pub all_digits-step : {text : List ℕ} {d : ℕ} {after : List ℕ} → BeginsWith text d after → list_all is_digit text ≡ list_all is_digit after
all_digits-step h = rw (h.split, is_digit_of _ h.small) refl

pub length-step : {text : List ℕ} {d : ℕ} {after : List ℕ} → BeginsWith text d after → length text ≡ length after + 1
length-step h = rw h.split (sym (add-one _))

pub number_after-no_digit : {text : List ℕ} → HasNoDigit text → (n : ℕ) → number_after n (digits text) ≡ n
number_after-no_digit h n = rw (h.none) refl

-- a number of k + 1 digits, of which one more is read
pub room-step : (n d k : ℕ) → d < 10 → (n + 1) * 10 ^ (k + 1) ≤ 1000 → (10 * n + d + 1) * 10 ^ k ≤ 1000
room-step n d k less room =
    omega (arith, more_places (n + 1) k, mul-le-mul_right (10 ^ k) (let e : 10 * n + d + 1 ≤ (n + 1) * 10 = omega arith in e), mul_right_comm (n + 1) 10 (10 ^ k))

pub small-number : (n k : ℕ) → (n + 1) * 10 ^ k ≤ 1000 → n < 1000
small-number n k room = omega (arith, le-mul_of_pos_right (n + 1) (tens_positive k))

stops : (b : Bool) (x : ℕ) (xs ys : List ℕ) → cond b (x ∷ xs) [] ≡ [] → (b && list_all is_digit ys) ≡ false
stops true x xs ys h = cc
stops false x xs ys h = refl

not_all_digits : (text : List ℕ) → HasNoDigit text → 0 < length text → list_all is_digit text ≡ false
not_all_digits [] h some = absurd (omega arith)
not_all_digits (x ∷ xs) h some = stops (is_digit x) x (digits xs) xs h.none

and_false : (a : Bool) → (a && false) ≡ false
and_false true = refl
and_false false = refl

pub not_short : (text rest : List ℕ) → list_all is_digit rest ≡ list_all is_digit text → HasNoDigit rest → 0 < length rest → is_short text ≡ false
not_short text rest same h some = rw (sym same, not_all_digits rest h some) (and_false _)
