-- The text in a buffer, from its parts.
use Rattle.std.proofs.Common.{◌≡◌, ℕ, ◌+◌, ◌-◌, ◌/◌, ◌%◌, ◌^◌, ◌≤◌, false, List, ◌++◌, length, take, drop, refl, sym, ◌∙◌, ap, arith}
use Rattle.std.specs.Prelude.{ℤ, pos, negsuc, unsigned_abs, int_lt}
use Rattle.std.proofs.Math.Seq.{take-append-add, drop-append_seam}
use Rattle.std.proofs.lemmas.List.{drop-take, length-take}
use Rattle.std.proofs.lemmas.Bool.Decides.{nat_tests}
use Rattle.ts_spec.specs.Value.{shown_whole, shown_fraction, shown_value}
use Rattle.ts_decimal.specs.Printing.{sign_text}

-- what comes after the point is what was written there
tail_text : (before after tail : List ℕ) (place end : ℕ) → place ≤ length before → place ≤ end → take end after ≡ take place before ++ tail → take (end - place) (drop place after) ≡ tail
tail_text before after tail place end within reaches e =
    let sum : place + (end - place) ≡ end = omega arith in
    let front : length (take place before) ≡ place = simp length-take (omega arith) in
    sym (drop-take place (end - place) after)
    ∙ ap (λ n. drop place (take n after)) sum
    ∙ ap (drop place) e
    ∙ ap (λ n. drop n (take place before ++ tail)) (sym front)
    ∙ drop-append_seam (take place before) tail

-- the sign and the whole part that end at the point, and the fraction from there on
pub printed : (room0 room1 room2 room3 sign whole part : List ℕ) (start place point end : ℕ) → point ≤ length room0 → point ≤ end
    → start + length sign ≡ place → place + length whole ≡ point
    → take end room1 ≡ take point room0 ++ part → drop place room2 ≡ whole ++ drop point room1 → drop start room3 ≡ sign ++ drop place room2
    → take (end - start) (drop start room3) ≡ sign ++ (whole ++ part)
printed room0 room1 room2 room3 sign whole part start place point end within from before_place before_point fraction digits minus =
    let all : drop start room3 ≡ sign ++ (whole ++ drop point room1) = minus ∙ ap (λ t. sign ++ t) digits in
    let count : end - start ≡ length sign + (length whole + (end - point)) = omega arith in
    rw (all, count)
    (take-append-add sign (whole ++ drop point room1) (length whole + (end - point))
    ∙ ap (λ t. sign ++ t) (take-append-add whole (drop point room1) (end - point) ∙ ap (λ t. whole ++ t) (tail_text room0 room1 part point end within from fraction)))

pub shown_value-parts : (z : ℤ) → shown_value z ≡ sign_text (int_lt z (pos 0)) ++ (shown_whole (unsigned_abs z / 10 ^ 6) ++ shown_fraction (unsigned_abs z % 10 ^ 6))
unfolding shown_value
shown_value-parts (pos n) = let e : int_lt (pos n) (pos 0) ≡ false = grind (arith, nat_tests) in rw e refl
shown_value-parts (negsuc n) = refl
