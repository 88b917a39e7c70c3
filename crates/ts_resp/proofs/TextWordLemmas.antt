-- The arguments of an inline request, one after another.
use Rattle.std.proofs.Common.{◌≡◌, ℕ, zero, suc, ◌+◌, ◌<◌, ◌≤◌, Bool, true, false, cond, not, ◌==◌, List, [], ◌∷◌, length, take, drop, get_or, filter, position, Some, None, refl, sym, ap, ◌∙◌, subst, arith}
use Rattle.std.proofs.lemmas.Bool.{ne_eqb, not-true, cond-true, true≢false}
use Rattle.std.proofs.lemmas.List.{length-take-le, length-drop, get_or-drop}
use Rattle.std.proofs.lemmas.List.Splits.{slice_split-cons_yes, slice_split-cons_no}
use Rattle.std.proofs.lemmas.List.Sums.{prefix_len-le-length, passes_at_first}
use Rattle.std.proofs.Math.ListN.{drop_of_length-le}
use Rattle.std.proofs.Math.Seq.{take-length}
use Rattle.std.specs.List.{position_or_len, slice_split, onto_first}
use Rattle.ts_spec.specs.Wire.{is_blank, words_of}
use Rattle.ts_resp.proofs.ScanLemmas.{placed, rest_from, rest_is}

abbrev is_other : ℕ → Bool
is_other byte = not (is_blank byte)

abbrev has_bytes : List ℕ → Bool
has_bytes piece = not (length piece == 0)

words-blank : (byte : ℕ) (text : List ℕ) → is_blank byte ≡ true → words_of (byte ∷ text) ≡ words_of text
words-blank byte text e = ap (filter has_bytes) (slice_split-cons_yes is_blank byte text e)

-- blanks before the first word
words-drop : (n : ℕ) (text : List ℕ) → n ≤ position_or_len is_other text → words_of text ≡ words_of (drop n text)
words-drop zero text h = refl
words-drop (suc n) [] h = let none : suc n ≤ 0 = h in absurd (omega arith)
words-drop (suc n) (byte ∷ text) h = by_test (is_blank byte) refl h (λ h. words-drop n text h)
  where
    by_test : (test : Bool) → is_blank byte ≡ test → suc n ≤ cond (not (not test)) (1 + position_or_len is_other text) 0
        → (n ≤ position_or_len is_other text → words_of text ≡ words_of (drop n text)) → words_of (byte ∷ text) ≡ words_of (drop n text)
    by_test true e h next = words-blank byte text e ∙ next (omega arith)
    by_test false e h next = absurd (omega arith)

-- only blanks
pub words-none : (text : List ℕ) → None ≡ position is_other text → words_of text ≡ []
words-none text e =
    let all : position_or_len is_other text ≡ length text = placed is_other text None e in
    words-drop (length text) text (omega (arith, all)) ∙ ap words_of (drop_of_length-le text (omega arith))

-- the piece before the first blank, and the words after it
abbrev FirstPiece : List ℕ → ℕ → Type 0
FirstPiece text n = (rest : List (List ℕ)) × (slice_split is_blank text ≡ take n text ∷ rest) × (filter has_bytes rest ≡ words_of (drop n text))

first_piece : (text : List ℕ) → FirstPiece text (position_or_len is_blank text)
first_piece [] = ([], refl, refl)
first_piece (byte ∷ text) = by_test (is_blank byte) refl (first_piece text)
  where
    by_test : (test : Bool) → is_blank byte ≡ test → FirstPiece text (position_or_len is_blank text)
        → FirstPiece (byte ∷ text) (cond (not test) (1 + position_or_len is_blank text) 0)
    by_test true e tail = (slice_split is_blank text, slice_split-cons_yes is_blank byte text e, sym (words-blank byte text e))
    by_test false e tail =
        let more : suc (position_or_len is_blank text) ≡ 1 + position_or_len is_blank text = omega arith in (
          tail.0,
          slice_split-cons_no is_blank byte text e ∙ ap (onto_first byte) tail.1 ∙ ap (λ k. take k (byte ∷ text) ∷ tail.0) more,
          tail.2 ∙ ap (λ k. words_of (drop k (byte ∷ text))) more,
        )

-- it has bytes where the text begins with none
some_bytes : (text : List ℕ) → 0 < length text → is_blank (get_or text 0 0) ≡ false → 0 < position_or_len is_blank text
some_bytes [] h e = let none : 0 < 0 = h in absurd (omega arith)
some_bytes (byte ∷ text) h e = by_test (is_blank byte) e
  where
    by_test : (test : Bool) → test ≡ false → 0 < cond (not test) (1 + position_or_len is_blank text) 0
    by_test true e = absurd (true≢false e)
    by_test false e = omega arith

words-first : (text : List ℕ) → 0 < length text → is_blank (get_or text 0 0) ≡ false
    → words_of text ≡ take (position_or_len is_blank text) text ∷ words_of (drop (position_or_len is_blank text) text)
words-first text some e =
    let n : ℕ = position_or_len is_blank text in
    let piece = first_piece text in
    let most : n ≤ length text = prefix_len-le-length (λ byte. not (is_blank byte)) text in
    let long : length (take n text) ≡ n = length-take-le n text most in
    let any : 0 < n = some_bytes text some e in
    let bytes : has_bytes (take n text) ≡ true = ap not (ne_eqb (length (take n text)) 0 (λ e. omega (arith, e, long, any))) in
    ap (filter has_bytes) piece.1 ∙ cond-true (has_bytes (take n text)) (take n text ∷ filter has_bytes piece.0) (filter has_bytes piece.0) bytes
    ∙ ap (λ words. take n text ∷ words) piece.2

-- from where the first other byte stands
words-from : (start : ℕ) (text : List ℕ) → Some start ≡ position is_other text
    → words_of text ≡ take (position_or_len is_blank (rest_from start text)) (rest_from start text)
    ∷ words_of (drop (position_or_len is_blank (rest_from start text)) (rest_from start text))
words-from start text e =
    let place = placed is_other text (Some start) e in
    let there : position_or_len is_other text ≡ start = place.0 in
    let long = length-drop start text in
    let within = place.1 in
    let passes : is_blank (get_or text (position_or_len is_other text) 0) ≡ false = not-true _ (passes_at_first is_other text 0 (omega arith)) in
    let here : start ≡ start + 0 = omega arith in
    let first : is_blank (get_or (drop start text) 0 0) ≡ false =
    ap is_blank (get_or-drop start text 0 0 ∙ ap (λ k. get_or text k 0) (sym here ∙ sym there)) ∙ passes in
    words-drop start text (omega arith)
    ∙ subst (λ rest. words_of (drop start text) ≡ take (position_or_len is_blank rest) rest ∷ words_of (drop (position_or_len is_blank rest) rest)) (sym (rest_is start text))
    (words-first (drop start text) (omega arith) first)

pub words-at : (start end : ℕ) (text front back : List ℕ) → Some start ≡ position is_other text → Some end ≡ position is_blank (rest_from start text)
    → front ≡ take end (rest_from start text) → back ≡ drop end (rest_from start text) → words_of text ≡ front ∷ words_of back
words-at start end text front back e f first last =
    let place = placed is_blank (rest_from start text) (Some end) f in
    words-from start text e
    ∙ ap (λ n. take n (rest_from start text) ∷ words_of (drop n (rest_from start text))) place.0
    ∙ ap (λ front. front ∷ words_of (drop end (rest_from start text))) (sym first)
    ∙ ap (λ back. front ∷ words_of back) (sym last)

pub words-last : (start : ℕ) (text : List ℕ) → Some start ≡ position is_other text → None ≡ position is_blank (rest_from start text)
    → words_of text ≡ rest_from start text ∷ []
words-last start text e f =
    let rest = rest_from start text in
    let all : position_or_len is_blank rest ≡ length rest = placed is_blank rest None f in
    words-from start text e
    ∙ ap (λ n. take n rest ∷ words_of (drop n rest)) all
    ∙ ap (λ words. take (length rest) rest ∷ words_of words) (drop_of_length-le rest (omega arith))
    ∙ ap (λ word. word ∷ []) (take-length rest)
