-- The digits of printed numbers.
use Rattle.std.proofs.Common.{◌≡◌, ℕ, zero, suc, ◌+◌, ◌/◌, ◌%◌, ◌^◌, ◌<◌, false, List, [], ◌∷◌, ◌++◌, map, refl, sym, ◌∙◌, ap, lit≤, arith}
use Rattle.std.specs.Prelude.{◌==◌}
use Rattle.std.proofs.Math.Nat.{pow-suc}
use Rattle.std.proofs.lemmas.Bool.Decides.{nat_tests}
use Rattle.std.proofs.lemmas.Fmt.{decimal_digit, decimal-digits_of}
use Rattle.std.proofs.lemmas.Int.Digits.{digits_of_step}
use Rattle.std.specs.Fmt.{decimal}
use Rattle.std.specs.Int.Digits.{digits_with_fuel, digits_of}
use Rattle.ts_spec.specs.Value.{shown_whole}

tenth : (k n : ℕ) → n < 10 ^ suc k → n / 10 < 10 ^ k
tenth k n small = omega (arith, small, pow-suc 10 k)

-- enough turns give all digits
pub enough : (k n : ℕ) → n < 10 ^ k → digits_with_fuel 10 k n ≡ digits_of 10 n
enough zero zero small = refl
enough zero (suc n) small = absurd (omega arith)
enough (suc k) zero small = refl
enough (suc k) (suc n) small =
    let some : (suc n == 0) ≡ false = grind (arith, nat_tests) in
    let step : digits_with_fuel 10 (suc k) (suc n) ≡ digits_with_fuel 10 k (suc n / 10) ++ (suc n % 10 ∷ []) = rw some refl in
    step ∙ ap (λ ds. ds ++ (suc n % 10 ∷ [])) (enough k (suc n / 10) (tenth k (suc n) small)) ∙ sym (digits_of_step 10 (suc n) (lit≤ tt) (omega arith))

-- the digits of a whole number of at most 64 digits, and none for 0
unfoldable pub digits_text : ℕ → List ℕ
digits_text n = map (λ d. 48 + d) (digits_with_fuel 10 64 n)

pub digits_text-is : (n : ℕ) → n < 10 ^ 64 → digits_text n ≡ map (λ d. 48 + d) (digits_of 10 n)
unfolding digits_text
digits_text-is n small = ap (map (λ d. 48 + d)) (enough 64 n small)

pub shown_whole-some : (n : ℕ) → 0 < n → shown_whole n ≡ digits_text n
unfolding shown_whole digits_text
shown_whole-some zero some = absurd (omega arith)
shown_whole-some (suc n) some = refl

-- a whole number of 64 bits is shown as it is printed
pub shown_whole-decimal : (n : ℕ) → n < 2 ^ 64 → decimal n ≡ shown_whole n
unfolding shown_whole
shown_whole-decimal zero small = decimal_digit 0 (omega arith)
shown_whole-decimal (suc n) small =
    decimal-digits_of (suc n) (omega arith) small ∙ sym (shown_whole-some (suc n) (omega arith) ∙ digits_text-is (suc n) (omega arith))
