-- Splitting of texts.
use Rattle.std.proofs.Common.{◌≡◌, ℕ, suc, ◌==◌, ◌<◌, Bool, true, false, List, [], ◌∷◌, ◌++◌, length, option_map, Option, Some, None, refl, sym, ap, ◌∙◌, if◌then◌else◌, arith}
use Rattle.std.proofs.lemmas.Bool.Decides.{nat_tests}
use Rattle.ts_spec.specs.FilterText.{before_cut, cut_at, before_last, onto_first, pieces, has_empty}

-- what stands before this byte at the end
pub before_last-end : (byte : ℕ) (front : List ℕ) (last : ℕ) → before_last byte (front ++ last ∷ []) ≡ (if last == byte then Some front else None)
before_last-end byte [] last = refl
before_last-end byte (c ∷ []) last = by (last == byte)
  where
    by : (b : Bool) → option_map (λ front. c ∷ front) (if b then Some [] else None) ≡ (if b then Some (c ∷ []) else None)
    by true = refl
    by false = refl
before_last-end byte (c ∷ d ∷ front) last = ap (option_map (λ front. c ∷ front)) (before_last-end byte (d ∷ front) last) ∙ by (last == byte)
  where
    by : (b : Bool) → option_map (λ front. c ∷ front) (if b then Some (d ∷ front) else None) ≡ (if b then Some (c ∷ d ∷ front) else None)
    by true = refl
    by false = refl

-- more bytes in front of what stands before a cut
abbrev pub onto_cut : List ℕ → Option (List ℕ × List ℕ) → Option (List ℕ × List ℕ)
onto_cut front None = None
onto_cut front (Some parts) = Some (front ++ parts.0, parts.1)

-- the pieces of a text that is cut so
abbrev pub cut_pieces : (byte : ℕ) (text : List ℕ) → Option (List ℕ × List ℕ) → List (List ℕ)
cut_pieces byte text None = text ∷ []
cut_pieces byte text (Some parts) = parts.0 ∷ pieces byte parts.1

pub pieces-cut : (byte : ℕ) (text : List ℕ) → pieces byte text ≡ cut_pieces byte text (cut_at byte text)
pieces-cut byte [] = refl
pieces-cut byte (c ∷ text) = by (c == byte) (cut_at byte text) (pieces-cut byte text)
  where
    by : (b : Bool) (cut : Option (List ℕ × List ℕ)) → pieces byte text ≡ cut_pieces byte text cut
        → (if b then [] ∷ pieces byte text else onto_first c (pieces byte text)) ≡ cut_pieces byte (c ∷ text) (if b then Some ([], text) else before_cut c cut)
    by true cut h = refl
    by false None h = ap (onto_first c) h
    by false (Some parts) h = ap (onto_first c) h

-- what stands after a cut
abbrev after_cut : Option (List ℕ × List ℕ) → List ℕ
after_cut None = []
after_cut (Some parts) = parts.1

-- is shorter
pub cut_at-shorter : (byte : ℕ) (text front rest : List ℕ) → cut_at byte text ≡ Some (front, rest) → length rest < length text
cut_at-shorter byte [] front rest h = cc
cut_at-shorter byte (c ∷ text) front rest h = by (c == byte) (cut_at byte text) (λ f e. cut_at-shorter byte text f rest e) h
  where
    by : (b : Bool) (cut : Option (List ℕ × List ℕ)) → ((f : List ℕ) → cut ≡ Some (f, rest) → length rest < length text)
        → (if b then Some ([], text) else before_cut c cut) ≡ Some (front, rest) → length rest < length (c ∷ text)
    by true cut ih h =
        let e : text ≡ rest = ap after_cut h in
        omega (arith, ap length e)
    by false None ih h = cc
    by false (Some parts) ih h =
        let e : parts.1 ≡ rest = ap after_cut h in
        let less : length rest < length text = ih parts.0 (ap (λ r. Some (parts.0, r)) e) in
        omega (arith, less)

-- a text that is cut has what stands before the cut for its first piece
pub first_piece : (byte : ℕ) (text front rest : List ℕ) → Some (front, rest) ≡ cut_at byte text → pieces byte text ≡ front ∷ pieces byte rest
first_piece byte text front rest cut = pieces-cut byte text ∙ ap (cut_pieces byte text) (sym cut)

-- and one that is not cut is its only piece
pub only_piece : (byte : ℕ) (text : List ℕ) → None ≡ cut_at byte text → pieces byte text ≡ text ∷ []
only_piece byte text cut = pieces-cut byte text ∙ ap (cut_pieces byte text) (sym cut)

some_bytes : (n : ℕ) → (suc n == 0) ≡ false
some_bytes n = grind (arith, nat_tests)

-- a first value without bytes is empty
pub has_empty-first : (value : List ℕ) (more : List (List ℕ)) → (length value == 0) ≡ true → has_empty (value ∷ more) ≡ true
has_empty-first [] more none = refl
has_empty-first (c ∷ cs) more none = absurd (cc (sym (some_bytes (length cs)) ∙ none))

-- after one with bytes it is the others that count
pub has_empty-later : (value : List ℕ) (more : List (List ℕ)) → (length value == 0) ≡ false → has_empty (value ∷ more) ≡ has_empty more
has_empty-later [] more some = cc
has_empty-later (c ∷ cs) more some = refl

-- of one value
pub has_empty-one : (value : List ℕ) → has_empty (value ∷ []) ≡ (length value == 0)
has_empty-one [] = refl
has_empty-one (c ∷ cs) = sym (some_bytes (length cs))
