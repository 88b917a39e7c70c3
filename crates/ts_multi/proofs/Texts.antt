-- The texts of the elements of an array, written one by one.
use Rattle.std.proofs.Common.{◌≡◌, ◌<◌, ◌≤◌, ◌^◌, ℕ, suc, List, [], ◌∷◌, ◌++◌, length, map, refl, sym, ap, ◌∙◌, append_assoc, append-nil, length-append, arith}
use Rattle.std.proofs.lemmas.List.{length-map}
use Rattle.std.proofs.lemmas.Fmt.{length-decimal-le}
use Rattle.std.specs.Fmt.{decimal}
use Rattle.ts_spec.specs.Replies.{array, reply_list}
use Rattle.ts_spec.specs.Text.{Reply, CRLF, count_of, line_text, text, texts}

-- what stands before an array is short
pub short-head : (n : ℕ) → n < 2 ^ 64 → length (line_text 42 (decimal n)) ≤ 64
short-head n within = omega (arith, length-append (decimal n) CRLF, length-decimal-le 20 n (omega arith) (omega arith) within)

pub count-reply_list : (items : List Reply) → count_of (reply_list items) ≡ length items
count-reply_list [] = refl
count-reply_list (r ∷ items) = ap suc (count-reply_list items)

-- the texts of the items, one after another
abbrev pub item_texts : {X : Type 0} → (X → Reply) → List X → List ℕ
item_texts shown xs = texts (reply_list (map shown xs))

-- the line of their number, and these, are the text of their array
pub array-text : {X : Type 0} (shown : X → Reply) (xs : List X) → line_text 42 (decimal (length xs)) ++ item_texts shown xs ≡ text (array (map shown xs))
array-text shown xs = ap (λ (k : ℕ). line_text 42 (decimal k) ++ item_texts shown xs) (sym (length-map xs shown) ∙ sym (count-reply_list (map shown xs)))

-- the texts of the items that are left, after those that were written, are those of all behind what was there at the
-- start
abbrev pub GoesOn : {X : Type 0} → (X → Reply) → (start now : List ℕ) → (rest all : List X) → Type 0
GoesOn shown start now rest all = now ++ item_texts shown rest ≡ start ++ item_texts shown all

-- it goes on after one more item
pub goes-on : {X : Type 0} (shown : X → Reply) (start now next : List ℕ) (x : X) (rest more all : List X)
    → GoesOn shown start now rest all → rest ≡ x ∷ more → next ≡ now ++ text (shown x) → GoesOn shown start next more all
goes-on {X = X} shown start now next x rest more all so_far here is =
    ap (λ (l : List ℕ). l ++ item_texts shown more) is ∙ append_assoc now (text (shown x)) (item_texts shown more)
    ∙ ap (λ (l : List X). now ++ item_texts shown l) (sym here) ∙ so_far

-- where none is left, and the line of their number was there at the start, that is the text of all
pub whole : {X : Type 0} (shown : X → Reply) (before start now : List ℕ) (n : ℕ) (rest all : List X)
    → GoesOn shown start now rest all → rest ≡ [] → start ≡ before ++ line_text 42 (decimal n) → n ≡ length all
    → now ≡ before ++ text (array (map shown all))
whole {X = X} shown before start now n rest all so_far none begun count =
    sym (append-nil now) ∙ ap (λ (l : List X). now ++ item_texts shown l) (sym none) ∙ so_far
    ∙ ap (λ (l : List ℕ). l ++ item_texts shown all) begun
    ∙ append_assoc before (line_text 42 (decimal n)) (item_texts shown all)
    ∙ ap (λ (k : ℕ). before ++ (line_text 42 (decimal k) ++ item_texts shown all)) count
    ∙ ap (λ (l : List ℕ). before ++ l) (array-text shown all)
