-- Labels in a list that is searched linearly.
use Rattle.std.proofs.Common.{◌≡◌, ℕ, zero, suc, ◌<◌, nat_eq, Bool, true, false, List, [], ◌∷◌, ◌++◌, length, drop, slice_get, slice_set, slice_index_or, option_map, Some, None, refl, sym, ap, ◌∙◌, if◌then◌else◌, arith}
use Rattle.std.specs.Cmp.Lexicographic.{pointwise}
use Rattle.ts_spec.specs.Key.{Key, same}
use Rattle.ts_spec.specs.State.{Label}
use Rattle.ts_spec.specs.Filter.{value_of}
use Rattle.ts_spec.specs.Labels.{with_label}
use Rattle.ts_spec.proofs.Keys.{same-sym, same-true, same-refl}
use Rattle.ts_labels.specs.Labels.{AreDistinct, labelled, labels_in}
use Rattle.ts_labels.proofs.LabelLemmas.{apart, not_first, pointwise-same}

-- a new label does not hide another
still_none : (k : Key) (l : Label) (ls : List Label) → same l.name k ≡ false → value_of k ls ≡ None → value_of k (with_label l ls) ≡ None
still_none k l [] other h = rw other refl
still_none k l (m ∷ ms) other h =
    let parts = not_first (same m.name k) m.value (value_of k ms) h in
    by (same m.name l.name) parts.0 parts.1 (still_none k l ms other parts.1)
  where
    by : (b : Bool) → same m.name k ≡ false → value_of k ms ≡ None → value_of k (with_label l ms) ≡ None
        → value_of k (if b then l ∷ ms else m ∷ with_label l ms) ≡ None
    by true here rest after = rw (other, rest) refl
    by false here rest after = rw (here, after) refl

-- each label stays there once
pub distinct-with_label : (l : Label) (ls : List Label) → AreDistinct ls → AreDistinct (with_label l ls)
distinct-with_label l [] d = (refl, tt)
distinct-with_label l (m ∷ ms) d = by (same m.name l.name) refl (distinct-with_label l ms d.1)
  where
    by : (b : Bool) → same m.name l.name ≡ b → AreDistinct (with_label l ms) → AreDistinct (if b then l ∷ ms else m ∷ with_label l ms)
    by true h after = (ap (λ k. value_of k ms) (sym (same-true m.name l.name h)) ∙ d.0, d.1)
    by false h after = (still_none m.name l ms (same-sym l.name m.name ∙ h) d.0, after)

-- a label that is not there comes last
pub with_label-last : (name value : Key) (es : List (Key × Key)) → value_of name (labels_in es) ≡ None
    → labels_in (es ++ (name, value) ∷ []) ≡ with_label (labelled name value) (labels_in es)
with_label-last name value [] h = refl
with_label-last name value (e ∷ es) h =
    let parts = not_first (same e.0 name) e.1 (value_of name (labels_in es)) h in
    rw parts.0 (ap (λ ls. labelled e.0 e.1 ∷ ls) (with_label-last name value es parts.1))

-- a label that is there keeps its position
pub with_label-at : (name value : Key) (es : List (Key × Key)) (i : ℕ) → AreDistinct (labels_in es)
    → option_map (λ l. l.name) (slice_get (labels_in es) i) ≡ Some name
    → labels_in (slice_set es i (name, value)) ≡ with_label (labelled name value) (labels_in es)
with_label-at name value [] i d h = cc
with_label-at name value (e ∷ es) zero d h =
    let n : e.0 ≡ name = cc in
    rw (n, same-refl name) refl
with_label-at name value (e ∷ es) (suc i) d h =
    rw (same-sym e.0 name, apart e.0 name (labels_in es) i d.0 h) (ap (λ ls. labelled e.0 e.1 ∷ ls) (with_label-at name value es i d.1 h))

-- what stands at an index, by its name
pub place-here : (name : Key) (es : List (Key × Key)) (i : ℕ) (p : Key × Key) → i < length es → p ≡ slice_index_or es i p → pointwise nat_eq p.0 name ≡ true
    → option_map (λ l. l.name) (slice_get (labels_in es) i) ≡ Some name
place-here name [] i p l h e = absurd (omega (arith, l))
place-here name (x ∷ es) zero p l h e =
    let n : name ≡ p.0 = same-true name p.0 (sym (pointwise-same p.0 name) ∙ e) in
    ap (λ q. Some q.0) (sym h) ∙ ap Some (sym n)
place-here name (x ∷ es) (suc i) p l h e = place-here name es i p (omega (arith, l)) h e

-- and its value
pub value-here : (name : Key) (es : List (Key × Key)) (i : ℕ) (p : Key × Key) → i < length es → p ≡ slice_index_or es i p → pointwise nat_eq p.0 name ≡ true
    → option_map (λ l. l.value) (slice_get (labels_in es) i) ≡ value_of name (labels_in (drop i es))
value-here name [] i p l h e = absurd (omega (arith, l))
value-here name (x ∷ es) zero p l h e = rw (sym h, same-sym p.0 name, sym (pointwise-same p.0 name) ∙ e) refl
value-here name (x ∷ es) (suc i) p l h e = value-here name es i p (omega (arith, l)) h e

-- a label of another name does not count
pub value-after : (name : Key) (es : List (Key × Key)) (i : ℕ) (p : Key × Key) → i < length es → p ≡ slice_index_or es i p → pointwise nat_eq p.0 name ≡ false
    → value_of name (labels_in (drop (suc i) es)) ≡ value_of name (labels_in (drop i es))
value-after name [] i p l h e = absurd (omega (arith, l))
value-after name (x ∷ es) zero p l h e = rw (sym h, same-sym p.0 name, sym (pointwise-same p.0 name) ∙ e) refl
value-after name (x ∷ es) (suc i) p l h e = value-after name es i p (omega (arith, l)) h e

-- its name and its value
pub name-at : (es : List (Key × Key)) (i : ℕ) (p : Key × Key) → i < length es → p ≡ slice_index_or es i p → option_map (λ l. l.name) (slice_get (labels_in es) i) ≡ Some p.0
name-at [] i p l h = absurd (omega (arith, l))
name-at (x ∷ es) zero p l h = ap (λ q. Some q.0) (sym h)
name-at (x ∷ es) (suc i) p l h = name-at es i p (omega (arith, l)) h

pub value-at : (es : List (Key × Key)) (i : ℕ) (p : Key × Key) → i < length es → p ≡ slice_index_or es i p → option_map (λ l. l.value) (slice_get (labels_in es) i) ≡ Some p.1
value-at [] i p l h = absurd (omega (arith, l))
value-at (x ∷ es) zero p l h = ap (λ q. Some q.1) (sym h)
value-at (x ∷ es) (suc i) p l h = value-at es i p (omega (arith, l)) h
