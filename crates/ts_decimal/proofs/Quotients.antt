-- Both roundings of whole numbers, from the quotient toward zero and its remainder, also in 128 bits as the code
-- computes them.
use Rattle.std.proofs.Common.{◌≡◌, ℕ, zero, suc, ◌+◌, ◌*◌, ◌/◌, ◌%◌, ◌^◌, ◌<◌, ◌≤◌, true, false, min, refl, sym, ◌∙◌, ap, add-one, arith, rules}
use Rattle.std.specs.Prelude.{ℤ, pos, negsuc, neg_ℤ, ◌+ℤ◌, ◌-ℤ◌, unsigned_abs, int_lt, int_div, int_rem}
use Rattle.std.proofs.Math.Nat.{div-mul-le_self, lt-div-mul-add, mod-eq-sub-div-mul, le-mul_of_pos_right, div-lt_iff_lt-mul, lt_of_not-le}
use Rattle.std.proofs.lemmas.Int.{to_z-of_z, quot_is, rem_is, quot_fits}
use Rattle.std.proofs.lemmas.Bool.{ltb-true}
use mir.Syntax.{w128}
use mir.Val.{SFits, to_z, of_z}
use lib.Signed.{◌<ℤ◌}
use Rattle.ts_spec.specs.Value.{bound, nearest, clamp, div_round}
use Rattle.ts_decimal.proofs.Nearest.{nearest-is}

nearest-down : (n d : ℕ) → 0 < d → 2 * (n % d) < d → nearest n d ≡ n / d
nearest-down n d some less = let e = mod-eq-sub-div-mul n d in let f = div-mul-le_self n d in nearest-is n d (n / d) (omega arith) (omega arith)

nearest-up : (n d : ℕ) → 0 < d → d ≤ 2 * (n % d) → nearest n d ≡ n / d + 1
nearest-up n d some half =
    let e = mod-eq-sub-div-mul n d in
    let f = div-mul-le_self n d in
    let g = lt-div-mul-add {a = n} some in
    let h : (n / d + 1) * d ≡ n / d * d + d = grind arith in
    nearest-is n d (n / d + 1) (omega arith) (omega arith)

neg-down : (q : ℕ) → neg_ℤ (pos q) -ℤ pos 1 ≡ neg_ℤ (pos (q + 1))
neg-down zero = refl
neg-down (suc q) = let e : suc (q + 0) ≡ suc q = omega arith in ap negsuc e ∙ sym (ap (λ k. neg_ℤ (pos k)) (add-one (suc q)))

unsigned_abs-neg : (n : ℕ) → unsigned_abs (neg_ℤ (pos n)) ≡ n
unsigned_abs-neg zero = refl
unsigned_abs-neg (suc n) = refl

not_below : (n : ℕ) → int_lt (pos n) (pos 0) ≡ true → ⊥
not_below n h = omega (arith, ltb-true n 0 h)

pub rounds_toward : (z : ℤ) (d : ℕ) → 0 < d → 2 * unsigned_abs (int_rem z (pos d)) < d → int_div z (pos d) ≡ div_round z d
unfolding div_round
rounds_toward (pos n) d some less = ap pos (sym (nearest-down n d some less))
rounds_toward (negsuc n) d some less = ap (λ q. neg_ℤ (pos q)) (sym (nearest-down (suc n) d some (rw (unsigned_abs-neg (suc n % d)) at less)))

pub rounds_below : (z : ℤ) (d : ℕ) → 0 < d → d ≤ 2 * unsigned_abs (int_rem z (pos d)) → int_lt z (pos 0) ≡ true → int_div z (pos d) -ℤ pos 1 ≡ div_round z d
unfolding div_round
rounds_below (pos n) d some half below = absurd (not_below n below)
rounds_below (negsuc n) d some half below =
    neg-down (suc n / d) ∙ ap (λ q. neg_ℤ (pos q)) (sym (nearest-up (suc n) d some (rw (unsigned_abs-neg (suc n % d)) at half)))

pub rounds_above : (z : ℤ) (d : ℕ) → 0 < d → d ≤ 2 * unsigned_abs (int_rem z (pos d)) → int_lt z (pos 0) ≡ false → int_div z (pos d) +ℤ pos 1 ≡ div_round z d
unfolding div_round
rounds_above (pos n) d some half above = ap pos (sym (nearest-up n d some half))
rounds_above (negsuc n) d some half above = cc

pub clamp-within : (z : ℤ) → unsigned_abs z ≤ bound → clamp z ≡ z
unfolding clamp
clamp-within (pos n) h = ap pos (omega arith)
clamp-within (negsuc n) h = let e : min (suc n) bound ≡ suc n = omega arith in ap (λ k. neg_ℤ (pos k)) e

pub clamp-below : (z : ℤ) → bound < unsigned_abs z → int_lt z (pos 0) ≡ true → clamp z ≡ neg_ℤ (pos bound)
unfolding clamp
clamp-below (pos n) h below = absurd (not_below n below)
clamp-below (negsuc n) h below = let e : min (suc n) bound ≡ bound = omega arith in ap (λ k. neg_ℤ (pos k)) e

pub clamp-above : (z : ℤ) → bound < unsigned_abs z → int_lt z (pos 0) ≡ false → clamp z ≡ pos bound
unfolding clamp
clamp-above (pos n) h above = ap pos (omega arith)
clamp-above (negsuc n) h above = cc

-- ---- the code's numbers of 128 bits

count_fits : (count : ℤ) (d : ℕ) → count ≡ pos d → 0 < d → d < 2 ^ 64 → SFits w128 count × (pos 0 <ℤ count)
count_fits count d is some small = rw is (record { sfits = omega arith }, record { lt = search rules })

pub count_read : (count : ℤ) (d : ℕ) → count ≡ pos d → d < 2 ^ 64 → to_z w128 (of_z w128 count) ≡ pos d
count_read count d is small = to_z-of_z w128 count (rw is (record { sfits = omega arith })) ∙ is

pub quotient_read : (z count : ℤ) (d : ℕ) → SFits w128 z → count ≡ pos d → 0 < d → d < 2 ^ 64
    → to_z w128 (of_z w128 (int_div (to_z w128 (of_z w128 z)) (to_z w128 (of_z w128 count)))) ≡ int_div z (pos d)
quotient_read z count d fits is some small =
    let k = count_fits count d is some small in
    quot_is w128 z count fits k.0 (quot_fits w128 z count fits k.1) ∙ ap (int_div z) is

pub rest_read : (z count : ℤ) (d : ℕ) → SFits w128 z → count ≡ pos d → 0 < d → d < 2 ^ 64
    → to_z w128 (of_z w128 (int_rem (to_z w128 (of_z w128 z)) (to_z w128 (of_z w128 count)))) ≡ int_rem z (pos d)
rest_read z count d fits is some small =
    let k = count_fits count d is some small in
    rem_is w128 z count fits k.0 ∙ ap (int_rem z) is

nearest-le : (n d : ℕ) → 0 < d → nearest n d ≤ n
nearest-le n d some =
    let positive : 0 < 2 * d = omega arith in
    let grows : n ≤ n * d = le-mul_of_pos_right n some in
    let e : 2 * n + d < (n + 1) * (2 * d) = grind (arith, grows) in
    let f : nearest n d < n + 1 = (div-lt_iff_lt-mul positive).1 e in
    omega arith

negated_fits : (q n : ℕ) → q ≤ suc n → SFits w128 (negsuc n) → SFits w128 (neg_ℤ (pos q))
negated_fits zero n h fits = record { sfits = omega arith }
negated_fits (suc q) n h fits = record { sfits = omega arith }

pub div_round_fits : (z : ℤ) (d : ℕ) → 0 < d → SFits w128 z → SFits w128 (div_round z d)
unfolding div_round
div_round_fits (pos n) d some fits = let e = nearest-le n d some in record { sfits = omega arith }
div_round_fits (negsuc n) d some fits = negated_fits (nearest (suc n) d) n (nearest-le (suc n) d some) fits

-- a rounded quotient that is made from what was read of the quotient toward zero
pub given_back : (z x : ℤ) (d : ℕ) → 0 < d → SFits w128 z → x ≡ div_round z d → to_z w128 (of_z w128 x) ≡ div_round z d
given_back z x d some fits e = ap (λ y. to_z w128 (of_z w128 y)) e ∙ to_z-of_z w128 (div_round z d) (div_round_fits z d some fits)

pub not_within : (n : ℕ) → (n ≤ bound → false ≡ true) → bound < n
not_within n h = lt_of_not-le (λ le. let e : false ≡ true = h le in cc)

nearest-most : (n d most : ℕ) → 0 < d → n ≤ most * d → nearest n d ≤ most
nearest-most n d most some few =
    let positive : 0 < 2 * d = omega arith in
    let e : 2 * n + d < (most + 1) * (2 * d) = grind (arith, few) in
    let f : nearest n d < most + 1 = (div-lt_iff_lt-mul positive).1 e in
    omega arith

div_round-most : (z : ℤ) (d most : ℕ) → 0 < d → unsigned_abs z ≤ most * d → unsigned_abs (div_round z d) ≤ most
unfolding div_round
div_round-most (pos n) d most some few = nearest-most n d most some few
div_round-most (negsuc n) d most some few = rw unsigned_abs-neg (nearest-most (suc n) d most some few)

pub mean_of : (z x : ℤ) (d : ℕ) → 0 < d → x ≡ div_round z d → (most : ℕ) → unsigned_abs z ≤ most * d → unsigned_abs x ≤ most
mean_of z x d some e most few = rw e (div_round-most z d most some few)
