-- Labels in a map, and one by one.
use Rattle.std.proofs.Common.{◌≡◌, ℕ, zero, suc, ◌==◌, ◌&&◌, Bool, true, false, nat_eq, List, [], ◌∷◌, take, slice_get, option_map, Option, Some, None, refl, sym, ap, ◌∙◌, if◌then◌else◌}
use Rattle.std.specs.Cmp.Lexicographic.{pointwise}
use Rattle.std.specs.List.{AllByRecursion, IsDistinct}
use Rattle.std.specs.Map.{lookup, keys_of}
use Rattle.indexmap.specs.IndexMap.{insert_entry}
use Rattle.ts_spec.specs.Key.{Key, same}
use Rattle.ts_spec.specs.State.{Label}
use Rattle.ts_spec.specs.Filter.{value_of}
use Rattle.ts_spec.specs.Labels.{with_label}
use Rattle.ts_spec.proofs.Keys.{same-sym, same-true}
use Rattle.ts_labels.specs.Labels.{AreDistinct, labelled, labels_in}

straight : (j k : Key) → pointwise nat_eq j k ≡ same j k
straight [] [] = refl
straight [] (y ∷ ys) = refl
straight (x ∷ xs) [] = refl
straight (x ∷ xs) (y ∷ ys) = ap (λ b. (x == y) && b) (straight xs ys)

-- the map compares the other way round
pub pointwise-same : (j k : Key) → pointwise nat_eq j k ≡ same k j
pointwise-same j k = straight j k ∙ same-sym j k

pub lookup-value_of : (name : Key) (es : List (Key × Key)) → lookup (pointwise nat_eq name) es ≡ value_of name (labels_in es)
lookup-value_of name [] = refl
lookup-value_of name (e ∷ es) = rw (pointwise-same name e.0, lookup-value_of name es) refl

pub inserted_label : (es : List (Key × Key)) (name value : Key) → labels_in (insert_entry (pointwise nat_eq) es name value) ≡ with_label (labelled name value) (labels_in es)
inserted_label [] name value = refl
inserted_label (e ∷ es) name value = rw (pointwise-same name e.0) (by (same e.0 name) refl (inserted_label es name value))
  where
    by : (b : Bool) → same e.0 name ≡ b
        → labels_in (insert_entry (pointwise nat_eq) es name value) ≡ with_label (labelled name value) (labels_in es)
        → labels_in (if b then (e.0, value) ∷ es else e ∷ insert_entry (pointwise nat_eq) es name value) ≡ (if b then labelled name value ∷ labels_in es else labelled e.0 e.1 ∷ with_label (labelled name value) (labels_in es))
    by true h rest = ap (λ k. labelled k value ∷ labels_in es) (same-true e.0 name h)
    by false h rest = ap (λ ls. labelled e.0 e.1 ∷ ls) rest

none_after : (name : Key) (es : List (Key × Key)) → AllByRecursion (λ k. pointwise nat_eq name k ≡ false) (keys_of es) → value_of name (labels_in es) ≡ None
none_after name [] h = refl
none_after name (e ∷ es) h = rw (← pointwise-same name e.0, h.0) (none_after name es h.1)

pub AreDistinct-labels_in : (es : List (Key × Key)) → IsDistinct (pointwise nat_eq) (keys_of es) → AreDistinct (labels_in es)
unfolding IsDistinct
AreDistinct-labels_in [] h = tt
AreDistinct-labels_in (e ∷ es) h = (none_after e.0 es h.0, AreDistinct-labels_in es h.1)

-- a first label whose value is not found has another name
pub not_first : (b : Bool) (v : Key) (rest : Option Key) → (if b then Some v else rest) ≡ None → (b ≡ false) × (rest ≡ None)
not_first true v rest h = cc
not_first false v rest h = (refl, h)

-- a name that none of these labels has is not that of one of them
pub apart : (name k : Key) (ls : List Label) (i : ℕ) → value_of name ls ≡ None → option_map (λ l. l.name) (slice_get ls i) ≡ Some k → same k name ≡ false
apart name k [] i h e = cc
apart name k (l ∷ ls) zero h e =
    let here : l.name ≡ k = cc in
    ap (λ n. same n name) (sym here) ∙ (not_first (same l.name name) l.value (value_of name ls) h).0
apart name k (l ∷ ls) (suc i) h e = apart name k ls i (not_first (same l.name name) l.value (value_of name ls) h).1 e

-- the first labels with the next one
pub with_label-next : (ls : List Label) (i : ℕ) (name value : Key) → AreDistinct ls
    → option_map (λ l. l.name) (slice_get ls i) ≡ Some name → option_map (λ l. l.value) (slice_get ls i) ≡ Some value
    → with_label (labelled name value) (take i ls) ≡ take (suc i) ls
with_label-next [] i name value d e f = cc
with_label-next (l ∷ ls) zero name value d e f =
    let n : name ≡ l.name = cc in
    let v : value ≡ l.value = cc in
    rw (n, v) refl
with_label-next (l ∷ ls) (suc i) name value d e f =
    rw (same-sym l.name name, apart l.name name ls i d.0 e) (ap (λ xs. l ∷ xs) (with_label-next ls i name value d.1 e f))
