-- The labels of a series, one by one.
use Rattle.std.proofs.Common.{◌≡◌, ℕ, zero, suc, List, [], ◌∷◌, ◌+◌, map, drop, slice_get, option_map, Some, ap, ◌∙◌, add-one}
use Rattle.std.proofs.Math.Seq.{drop-cons}
use Rattle.std.proofs.lemmas.Option.{slice_get_within, get_or_from_slice_get}
use Rattle.ts_spec.specs.State.{Label}
use Rattle.ts_spec.specs.Queries.{shown_label}

-- the label at a place is shown with its name and its value
pub shown-at : (ls : List Label) (i : ℕ) (name value : List ℕ)
    → option_map (λ l. l.name) (slice_get ls i) ≡ Some name → option_map (λ l. l.value) (slice_get ls i) ≡ Some value
    → slice_get (map shown_label ls) i ≡ Some (record { name = name; value = Some value })
shown-at [] i name value e f = cc
shown-at (l ∷ ls) zero name value e f =
    let n : l.name ≡ name = cc in
    let v : l.value ≡ value = cc in
    ap (λ (x : List ℕ). Some (record { name = x; value = Some l.value })) n ∙ ap (λ (x : List ℕ). Some (record { name = name; value = Some x })) v
shown-at (l ∷ ls) (suc i) name value e f = shown-at ls i name value e f

-- the first of what is left of a list
pub drop-next : {X : Type 0} (xs : List X) (i : ℕ) (x : X) → slice_get xs i ≡ Some x → drop i xs ≡ x ∷ drop (i + 1) xs
drop-next {X = X} xs i x e =
    rw add-one (drop-cons xs i x (slice_get_within xs i x e) ∙ ap (λ (y : X). y ∷ drop (suc i) xs) (get_or_from_slice_get xs i x x e))
