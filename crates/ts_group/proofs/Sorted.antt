-- Grouping anything that represents a series by the value of a label.
use Rattle.std.proofs.Common.{◌≡◌, ◌+◌, ℕ, Bool, true, false, List, [], ◌∷◌, ◌++◌, map, Option, None, Some, refl, sym, ap, ◌∙◌, append-nil, arith}
use Rattle.std.specs.Prelude.{is_some, if◌then◌else◌, sum_by}
use Rattle.std.proofs.lemmas.List.{map-append}
use Rattle.std.proofs.lemmas.List.Elements.{filter-append}
use Rattle.std.proofs.lemmas.List.Sums.{sum_by-cons}
use Rattle.std.specs.Cmp.Lexicographic.{slice_cmp}
use Rattle.std.specs.Ordering.{nat_cmp}
use Rattle.std.specs.BTreeMap.{is_at, insert_entry}
use Rattle.std.specs.Map.{lookup, set_value}
use Rattle.ts_spec.specs.Key.{same}
use Rattle.ts_spec.specs.Filter.{value_of}
use Rattle.ts_spec.specs.Groups.{Labelled, with_value_of, values, is_value, having}
use Rattle.ts_spec.proofs.Keys.{same-refl, same-sym}
use Rattle.ts_group.specs.Sorted.{having_of, values_of, by_values_of}
use Rattle.ts_group.proofs.Ordered.{each, each-none, each-some, each-alike, each-inserted, each-set, has}
use Rattle.ts_group.proofs.Shares.{sum-put}
use Rattle.ts_group.proofs.Values.{in_bytes, rising-values, values-more, none_having}

module _ {T : Type 0} (series : T → Labelled) (label : List ℕ) where
  -- the series of those that have a value
  pub having-series : (v : List ℕ) (ts : List T) → map series (having_of series label v ts) ≡ having label v (map series ts)
  having-series v [] = refl
  having-series v (t ∷ ts) = go (is_value v (value_of label (series t).labels)) (having-series v ts)
    where
      go : (b : Bool) → map series (having_of series label v ts) ≡ having label v (map series ts)
          → map series (if b then t ∷ having_of series label v ts else having_of series label v ts) ≡ (if b then series t ∷ having label v (map series ts) else having label v (map series ts))
      go true ih = ap (λ (l : List Labelled). series t ∷ l) ih
      go false ih = ih

  none-mapped : (ts : List T) → map series ts ≡ [] → ts ≡ []
  none-mapped [] e = refl
  none-mapped (t ∷ ts) e = cc

  -- none has a value that is none of theirs
  none_of : (v : List ℕ) (ts : List T) → has in_bytes v (values_of series label ts) ≡ false → having_of series label v ts ≡ []
  none_of v ts absent = none-mapped (having_of series label v ts) (having-series v ts ∙ none_having label v (map series ts) absent)

  -- ---- one more

  of-then : (v : List ℕ) (ts : List T) (t : T) → having_of series label v (ts ++ t ∷ []) ≡ having_of series label v ts ++ having_of series label v (t ∷ [])
  of-then v ts t = filter-append (λ (u : T). is_value v (value_of label (series u).labels)) ts (t ∷ [])

  of-here : (v : List ℕ) (ts : List T) (t : T) → value_of label (series t).labels ≡ Some v → having_of series label v (ts ++ t ∷ []) ≡ having_of series label v ts ++ t ∷ []
  of-here v ts t e = of-then v ts t ∙ ap (λ (l : List T). having_of series label v ts ++ l) own
    where
      own : having_of series label v (t ∷ []) ≡ t ∷ []
      own = rw (e, same-refl v) refl

  of-elsewhere : (v k : List ℕ) (ts : List T) (t : T) → value_of label (series t).labels ≡ Some v → same v k ≡ false → having_of series label k (ts ++ t ∷ []) ≡ having_of series label k ts
  of-elsewhere v k ts t e apart = of-then k ts t ∙ ap (λ (l : List T). having_of series label k ts ++ l) none ∙ append-nil (having_of series label k ts)
    where
      none : having_of series label k (t ∷ []) ≡ []
      none = rw (e, same-sym k v, apart) refl

  of-nowhere : (k : List ℕ) (ts : List T) (t : T) → value_of label (series t).labels ≡ None → having_of series label k (ts ++ t ∷ []) ≡ having_of series label k ts
  of-nowhere k ts t e = of-then k ts t ∙ ap (λ (l : List T). having_of series label k ts ++ l) none ∙ append-nil (having_of series label k ts)
    where
      none : having_of series label k (t ∷ []) ≡ []
      none = rw e refl

  values_of-more : (ts : List T) (t : T) → values_of series label (ts ++ t ∷ []) ≡ with_value_of (value_of label (series t).labels) (values_of series label ts)
  values_of-more ts t = ap (values label) (map-append series ts (t ∷ [])) ∙ values-more label (map series ts) (series t)

  -- one that lacks the label
  pub sorted-kept : (es : List (List ℕ × List T)) (ts : List T) (t : T) → value_of label (series t).labels ≡ None → es ≡ by_values_of series label ts → es ≡ by_values_of series label (ts ++ t ∷ [])
  sorted-kept es ts t none is =
      is ∙ each-alike in_bytes (λ (v : List ℕ). having_of series label v ts) (λ (v : List ℕ). having_of series label v (ts ++ t ∷ [])) (values_of series label ts) (λ v. of-nowhere v ts t none)
      ∙ ap (map (λ (v : List ℕ). (v, having_of series label v (ts ++ t ∷ [])))) (sym (values_of-more ts t ∙ ap (λ o. with_value_of o (values_of series label ts)) none))

  -- one with a value that the others do not have
  pub sorted-inserted : (v : List ℕ) (es new : List (List ℕ × List T)) (now : List T) (ts : List T) (t : T) → value_of label (series t).labels ≡ Some v → es ≡ by_values_of series label ts
      → lookup (is_at (slice_cmp nat_cmp v)) es ≡ None → now ≡ t ∷ [] → new ≡ insert_entry (slice_cmp nat_cmp) es v now → new ≡ by_values_of series label (ts ++ t ∷ [])
  sorted-inserted v es new now ts t in_it is none alone made =
      let f = λ (w : List ℕ). having_of series label w ts in
      let g = λ (w : List ℕ). having_of series label w (ts ++ t ∷ []) in
      let absent = each-none in_bytes f v (values_of series label ts) (ap (lookup (is_at (slice_cmp nat_cmp v))) (sym is) ∙ none) in
      let here : having_of series label v (ts ++ t ∷ []) ≡ t ∷ [] = of-here v ts t in_it ∙ ap (λ (l : List T). l ++ t ∷ []) (none_of v ts absent) in
      made ∙ ap (λ (l : List (List ℕ × List T)). insert_entry (slice_cmp nat_cmp) l v now) is
      ∙ ap (λ (x : List T). insert_entry (slice_cmp nat_cmp) (by_values_of series label ts) v x) (alone ∙ sym here)
      ∙ each-inserted in_bytes f g v (values_of series label ts) (rising-values label (map series ts)) (λ w. λ e. of-elsewhere v w ts t in_it e)
      ∙ ap (each in_bytes g) (sym (values_of-more ts t ∙ ap (λ o. with_value_of o (values_of series label ts)) in_it))

  -- one with a value that others have
  pub sorted-added : (v : List ℕ) (es new : List (List ℕ × List T)) (old now : List T) (ts : List T) (t : T) → value_of label (series t).labels ≡ Some v → es ≡ by_values_of series label ts
      → lookup (is_at (slice_cmp nat_cmp v)) es ≡ Some old → now ≡ old ++ t ∷ [] → new ≡ set_value (is_at (slice_cmp nat_cmp v)) es now → new ≡ by_values_of series label (ts ++ t ∷ [])
  sorted-added v es new old now ts t in_it is found adds made =
      let f = λ (w : List ℕ). having_of series label w ts in
      let g = λ (w : List ℕ). having_of series label w (ts ++ t ∷ []) in
      let there = each-some in_bytes f v (values_of series label ts) old (ap (lookup (is_at (slice_cmp nat_cmp v))) (sym is) ∙ found) in
      made ∙ ap (λ (l : List (List ℕ × List T)). set_value (is_at (slice_cmp nat_cmp v)) l now) is
      ∙ ap (λ (x : List T). set_value (is_at (slice_cmp nat_cmp v)) (by_values_of series label ts) x)
      (adds ∙ ap (λ (l : List T). l ++ t ∷ []) there.1 ∙ sym (of-here v ts t in_it))
      ∙ each-set in_bytes f g v (values_of series label ts) (rising-values label (map series ts)) there.0 (λ w. λ e. of-elsewhere v w ts t in_it e)
      ∙ ap (each in_bytes g) (sym (values_of-more ts t ∙ ap (λ o. with_value_of o (values_of series label ts)) in_it))

  -- ---- sums

  -- what is added up value by value is what those add up to that have the label
  pub sum-sorted : (most : T → ℕ) (ts : List T) → sum_by (λ (v : List ℕ). sum_by most (having_of series label v ts)) (values_of series label ts)
      ≡ sum_by (λ (t : T). if is_some (value_of label (series t).labels) then most t else 0) ts
  sum-sorted most [] = refl
  sum-sorted most (t ∷ ts) =
      go (value_of label (series t).labels) (sum-sorted most ts)
      ∙ sym (sum_by-cons (λ (u : T). if is_some (value_of label (series u).labels) then most u else 0) t ts)
    where
      rest : ℕ
      rest = sum_by (λ (u : T). if is_some (value_of label (series u).labels) then most u else 0) ts

      go : (o : Option (List ℕ)) → sum_by (λ (v : List ℕ). sum_by most (having_of series label v ts)) (values_of series label ts) ≡ rest
          → sum_by (λ (v : List ℕ). sum_by most (if is_value v o then t ∷ having_of series label v ts else having_of series label v ts)) (with_value_of o (values_of series label ts))
          ≡ (if is_some o then most t else 0) + rest
      go None ih = omega (arith, ih)
      go (Some w) ih =
          let f = λ (v : List ℕ). sum_by most (having_of series label v ts) in
          let g = λ (v : List ℕ). sum_by most (if same v w then t ∷ having_of series label v ts else having_of series label v ts) in
          let more = sum-put in_bytes f g w (most t) (λ k. λ apart. rw (same-sym k w, apart) refl) (rw (same-refl w) (sum_by-cons most t (having_of series label w ts)))
          (values_of series label ts) (rising-values label (map series ts)) (λ absent. ap (sum_by most) (none_of w ts absent)) in
          omega (arith, ih, more)
