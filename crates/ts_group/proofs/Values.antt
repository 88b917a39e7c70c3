-- The values of a label and the series with each, after adding one more series.
use Rattle.std.proofs.Common.{◌≡◌, ℕ, false, cond, if◌then◌else◌, List, [], ◌∷◌, ◌++◌, Option, None, Some, inl, inr, refl, ap, ◌∙◌, arith, eq-eqb, ne_eqb, lt-ltb, le-ltb, append-nil}
use Rattle.std.proofs.lemmas.Bool.{cases_order}
use Rattle.std.proofs.lemmas.List.Elements.{filter-append}
use Rattle.std.specs.Cmp.Lexicographic.{slice_cmp}
use Rattle.std.specs.Ordering.{nat_cmp}
use Rattle.std.specs.declared.cmp.Ordering.TheVariants.{Less, Equal, Greater}
use Rattle.ts_spec.specs.Key.{Key, same, is_before, before_trans}
use Rattle.ts_spec.specs.Filter.{value_of}
use Rattle.ts_spec.specs.Groups.{Labelled, with_value, with_value_of, values, is_value, having}
use Rattle.ts_spec.proofs.Keys.{same-refl, same-true, same-sym, before-irrefl, before-total}
use Rattle.ts_group.proofs.Ordered.{IsOrder, AreRising, has, put-both, rising-put, not-same, not-others}

compared : (a b : Key) → slice_cmp nat_cmp a b ≡ cond (is_before a b) Less (cond (same a b) Equal Greater)
compared [] [] = refl
compared [] (y ∷ b) = refl
compared (x ∷ a) [] = refl
compared (x ∷ a) (y ∷ b) = elim (cases_order x y) [
  | inl e ↦ rw (le-ltb x y (omega arith), eq-eqb x y e) (compared a b)
  | inr (inl e) ↦ rw (lt-ltb x y e) refl
  | inr (inr e) ↦ rw (le-ltb x y (omega arith), ne_eqb x y (λ d. absurd (omega arith))) refl
]

pub in_bytes : IsOrder is_before same (slice_cmp nat_cmp) with_value
in_bytes = record {
  irrefl = before-irrefl;
  trans = before_trans;
  total = before-total;
  itself = same-refl;
  one = same-true;
  compares = compared;
  put_nil = λ a. refl;
  put_cons = λ a b bs. refl;
}

rising-with : (v : Option (List ℕ)) (vs : List (List ℕ)) → AreRising in_bytes vs → AreRising in_bytes (with_value_of v vs)
rising-with None vs h = h
rising-with (Some v) vs h = rising-put in_bytes v vs h

pub rising-values : (label : List ℕ) (ms : List Labelled) → AreRising in_bytes (values label ms)
rising-values label [] = tt
rising-values label (m ∷ ms) = rising-with (value_of label m.labels) (values label ms) (rising-values label ms)

with-both : (v w : Option (List ℕ)) (vs : List (List ℕ)) → with_value_of v (with_value_of w vs) ≡ with_value_of w (with_value_of v vs)
with-both None w vs = refl
with-both (Some v) None vs = refl
with-both (Some v) (Some w) vs = put-both in_bytes v w vs

pub values-more : (label : List ℕ) (ms : List Labelled) (m : Labelled) → values label (ms ++ m ∷ []) ≡ with_value_of (value_of label m.labels) (values label ms)
values-more label [] m = refl
values-more label (n ∷ ms) m =
    ap (with_value_of (value_of label n.labels)) (values-more label ms m) ∙ with-both (value_of label n.labels) (value_of label m.labels) (values label ms)

-- the series that have a value which none has
pub none_having : (label v : List ℕ) (ms : List Labelled) → has in_bytes v (values label ms) ≡ false → having label v ms ≡ []
none_having label v [] h = refl
none_having label v (m ∷ ms) h = go (value_of label m.labels) h (none_having label v ms)
  where
    go : (w : Option (List ℕ)) → has in_bytes v (with_value_of w (values label ms)) ≡ false → (has in_bytes v (values label ms) ≡ false → having label v ms ≡ [])
        → (if is_value v w then m ∷ having label v ms else having label v ms) ≡ []
    go None h ih = ih h
    go (Some w) h ih = rw (not-same in_bytes v w (values label ms) h) (ih (not-others in_bytes v w (values label ms) h))

-- the series with one more that has this value, and those of another value
having-then : (label v : List ℕ) (ms : List Labelled) (m : Labelled) → having label v (ms ++ m ∷ []) ≡ having label v ms ++ having label v (m ∷ [])
having-then label v ms m = filter-append (λ (n : Labelled). is_value v (value_of label n.labels)) ms (m ∷ [])

pub having-here : (label v : List ℕ) (ms : List Labelled) (m : Labelled) → value_of label m.labels ≡ Some v → having label v (ms ++ m ∷ []) ≡ having label v ms ++ m ∷ []
having-here label v ms m e = having-then label v ms m ∙ ap (λ (l : List Labelled). having label v ms ++ l) own
  where
    own : having label v (m ∷ []) ≡ m ∷ []
    own = rw (e, same-refl v) refl

pub having-elsewhere : (label v k : List ℕ) (ms : List Labelled) (m : Labelled) → value_of label m.labels ≡ Some v → same v k ≡ false → having label k (ms ++ m ∷ []) ≡ having label k ms
having-elsewhere label v k ms m e apart = having-then label k ms m ∙ ap (λ (l : List Labelled). having label k ms ++ l) none ∙ append-nil (having label k ms)
  where
    none : having label k (m ∷ []) ≡ []
    none = rw (e, same-sym k v, apart) refl

-- and with one more that has none
pub having-nowhere : (label k : List ℕ) (ms : List Labelled) (m : Labelled) → value_of label m.labels ≡ None → having label k (ms ++ m ∷ []) ≡ having label k ms
having-nowhere label k ms m e = having-then label k ms m ∙ ap (λ (l : List Labelled). having label k ms ++ l) none ∙ append-nil (having label k ms)
  where
    none : having label k (m ∷ []) ≡ []
    none = rw e refl
