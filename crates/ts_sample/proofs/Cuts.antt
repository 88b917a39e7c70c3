-- Facts on the parts that a list is split into.
use Rattle.std.proofs.Common.{◌≡◌, ◌≢◌, ℕ, ◌/◌, List, [], ◌∷◌, ◌++◌, length, take, drop, refl, sym, ◌∙◌, ap, append-nil, append_assoc}
use Rattle.std.specs.List.{All}
use Rattle.std.proofs.lemmas.List.{take-append-drop}
use Rattle.std.proofs.lemmas.List.Elements.{All-nil, All-cons, All-append}
use Rattle.ts_spec.specs.Sample.{Point}
use Rattle.ts_sample.specs.Chunk.{Fits, IsCut, nothing, whole, halves, joined}

pub joined-append : (firsts lasts : List (List Point)) → joined (firsts ++ lasts) ≡ joined firsts ++ joined lasts
joined-append [] lasts = refl
joined-append (ps ∷ pss) lasts = ap (λ (l : List Point). ps ++ l) (joined-append pss lasts) ∙ sym (append_assoc ps (joined pss) (joined lasts))

-- one after another they are the list
pub joined-cut : (format : List Point → List ℕ) (limit : ℕ) (ps : List Point) (pss : List (List Point)) → IsCut format limit ps pss → joined pss ≡ ps
joined-cut format limit _ _ nothing = refl
joined-cut format limit _ _ (whole ps some fits) = append-nil ps
joined-cut format limit _ _ (halves ps firsts lasts more first last) =
    joined-append firsts lasts
    ∙ ap (λ (l : List Point). l ++ joined lasts) (joined-cut format limit (take (length ps / 2) ps) firsts first)
    ∙ ap (λ (l : List Point). take (length ps / 2) ps ++ l) (joined-cut format limit (drop (length ps / 2) ps) lasts last)
    ∙ take-append-drop (length ps / 2) ps

-- none of them is empty
pub cut-some : (format : List Point → List ℕ) (limit : ℕ) (ps : List Point) (pss : List (List Point)) → IsCut format limit ps pss → All (λ qs. qs ≢ []) pss
cut-some format limit _ _ nothing = All-nil (λ (qs : List Point). qs ≢ [])
cut-some format limit _ _ (whole ps some fits) = All-cons (λ (qs : List Point). qs ≢ []) ps [] some (All-nil (λ (qs : List Point). qs ≢ []))
cut-some format limit _ _ (halves ps firsts lasts more first last) =
    All-append (λ (qs : List Point). qs ≢ []) firsts lasts
    (cut-some format limit (take (length ps / 2) ps) firsts first) (cut-some format limit (drop (length ps / 2) ps) lasts last)

-- each of them fits
pub cut-fits : (format : List Point → List ℕ) (limit : ℕ) (ps : List Point) (pss : List (List Point)) → IsCut format limit ps pss → All (Fits format limit) pss
cut-fits format limit _ _ nothing = All-nil (Fits format limit)
cut-fits format limit _ _ (whole ps some fits) = All-cons (Fits format limit) ps [] fits (All-nil (Fits format limit))
cut-fits format limit _ _ (halves ps firsts lasts more first last) =
    All-append (Fits format limit) firsts lasts
    (cut-fits format limit (take (length ps / 2) ps) firsts first) (cut-fits format limit (drop (length ps / 2) ps) lasts last)
