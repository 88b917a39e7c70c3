-- The text of a pair, assembled in a block.
use Rattle.std.proofs.Common.{◌≡◌, ℕ, ◌+◌, ◌-◌, ◌≤◌, List, [], ◌∷◌, ◌++◌, length, take, drop, sym, ◌∙◌, ap, append_assoc, append-nil, arith}
use Rattle.ts_spec.specs.Text.{CRLF, line_text}
use Rattle.std.proofs.Math.Seq.{take-append-add}
use Rattle.std.proofs.lemmas.List.{drop-take, drop-append-le, length-take}

-- what stands behind a part of a list, and its end
pub text_with_end : (before after text end : List ℕ) (from to : ℕ) → from ≤ to → to ≤ length before → length end ≡ 2
    → take (to - from) (drop from before) ≡ text → take (to + 2) after ≡ take to before ++ end
    → take (to + 2 - from) (drop from after) ≡ text ++ end
text_with_end before after text end from to order within two e f =
    let sum : from + (to + 2 - from) ≡ to + 2 = omega arith in
    let part : from + (to - from) ≡ to = omega arith in
    sym (drop-take from (to + 2 - from) after)
    ∙ ap (λ n. drop from (take n after)) sum
    ∙ ap (drop from) f
    ∙ drop-append-le from (take to before) end (simp length-take (omega arith))
    ∙ ap (λ t. t ++ end) (ap (λ n. drop from (take n before)) (sym part) ∙ drop-take from (to - from) before ∙ e)

-- three parts that were written before it, the last one first
pub behind_three : (a b c after text room1 room2 room3 : List ℕ) (p1 p2 p3 from to : ℕ) → from ≤ to
    → p1 + length a ≡ p2 → p2 + length b ≡ p3 → p3 + length c ≡ from
    → drop p1 room1 ≡ a ++ drop p2 room2 → drop p2 room2 ≡ b ++ drop p3 room3 → drop p3 room3 ≡ c ++ drop from after
    → take (to - from) (drop from after) ≡ text
    → take (to - p1) (drop p1 room1) ≡ a ++ (b ++ (c ++ text))
behind_three a b c after text room1 room2 room3 p1 p2 p3 from to order one two three first second third e =
    let count : to - p1 ≡ length a + (length b + (length c + (to - from))) = omega arith in
    let all : drop p1 room1 ≡ a ++ (b ++ (c ++ drop from after)) = first ∙ ap (λ t. a ++ t) (second ∙ ap (λ t. b ++ t) third) in
    rw (all, count)
    (take-append-add a (b ++ (c ++ drop from after)) (length b + (length c + (to - from)))
    ∙ ap (λ t. a ++ t) (take-append-add b (c ++ drop from after) (length c + (to - from))
    ∙ ap (λ t. b ++ t) (take-append-add c (drop from after) (to - from) ∙ ap (λ t. c ++ t) e)))

-- the text of a pair from the texts of its number and its value
pub pair_text : (number value : List ℕ) → (42 ∷ 50 ∷ 13 ∷ 10 ∷ 58 ∷ []) ++ (number ++ ((13 ∷ 10 ∷ 43 ∷ []) ++ (value ++ CRLF))) ≡ line_text 42 (50 ∷ []) ++ (line_text 58 number ++ (line_text 43 value ++ []))
pair_text number value =
    ap (λ (t : List ℕ). 42 ∷ 50 ∷ 13 ∷ 10 ∷ 58 ∷ (number ++ (13 ∷ 10 ∷ 43 ∷ t))) (sym (append-nil (value ++ CRLF)))
    ∙ ap (λ (t : List ℕ). 42 ∷ 50 ∷ 13 ∷ 10 ∷ 58 ∷ t) (sym (append_assoc number CRLF (43 ∷ ((value ++ CRLF) ++ []))))
