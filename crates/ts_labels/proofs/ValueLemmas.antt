-- Lists of values in ascending order, and the search in them.
use Rattle.std.proofs.Common.{◌≡◌, ℕ, zero, suc, ◌<◌, ◌≤◌, ◌⊎◌, inl, inr, nat_eq, Bool, true, false, List, [], ◌∷◌, length, get_or, Result, Ok, Err, refl, sym, ap, subst, ◌∙◌, arith}
use native.Mathlib.Numerals.{unary_clauses}
use Rattle.std.proofs.lemmas.Bool.{false≢true, cases_order}
use Rattle.std.proofs.lemmas.List.Filters.{dedup_is}
use Rattle.std.proofs.lemmas.List.Kept.{IsStrictlySortedBy-dedup, Contains-dedup, Contains-from_dedup}
use Rattle.std.proofs.lemmas.List.Sorted.{Contains-permutation, IsPermutation-sym, searchable_from_sorted}
use Rattle.std.proofs.lemmas.Map.Keys.{IsDistinct-from_sorted}
use Rattle.std.proofs.lemmas.Map.Views.{Contains-from_any, list_any-from_Contains}
use Rattle.std.specs.Cmp.{both_ways}
use Rattle.std.specs.Cmp.Lexicographic.{pointwise, slice_cmp, nat_list_cmp_total, nat_list_eq_equiv, texts_ties}
use Rattle.std.specs.List.{AllByRecursion, IsDistinct, Contains, list_any, dedup}
use Rattle.std.specs.List.Retain.{IsFiltered, DiffersFromLast}
use Rattle.std.specs.List.Sorted.{IsBinarySearchResult, IsPermutation, IsSearchInRange, IsSorted, IsSortedBy, IsStrictlySortedBy}
use Rattle.std.specs.Ordering.{nat_cmp, is_lt, is_eq, eq_by_cmp, ordering_reverse}
use Rattle.std.specs.Result.{is_ok}
use Rattle.std.specs.declared.cmp.Ordering.{Ordering}
use Rattle.std.specs.declared.cmp.Ordering.TheVariants.{Less, Equal, Greater}
use Rattle.ts_spec.specs.Key.{Key, same}
use Rattle.ts_spec.specs.Filter.{is_one_of}
use Rattle.ts_spec.proofs.Keys.{same-true}
use Rattle.ts_labels.specs.Values.{AreAlike, AreOnce, AreSorted}
use Rattle.ts_labels.proofs.LabelLemmas.{pointwise-same}

-- the order of words
abbrev order : Key → Key → Ordering
order = slice_cmp nat_cmp

-- ---- the same values

any-is_one_of : (values : List Key) (value : Key) → list_any (pointwise nat_eq value) values ≡ is_one_of values value
any-is_one_of [] value = refl
any-is_one_of (v ∷ values) value = rw (pointwise-same value v, any-is_one_of values value) refl

exact : (v w : Key) → pointwise nat_eq v w ≡ true → v ≡ w
exact v w e = sym (same-true w v (sym (pointwise-same v w) ∙ e))

held : (values : List Key) (value : Key) → Contains values value → is_one_of values value ≡ true
held values value h = sym (any-is_one_of values value) ∙ list_any-from_Contains nat_list_eq_equiv value values h

found : (values : List Key) (value : Key) → is_one_of values value ≡ true → Contains values value
found values value h = Contains-from_any exact value values (any-is_one_of values value ∙ h)

-- those that are sorted and kept once are the same
alike-sorted : (named moved kept : List Key) → IsPermutation named moved → kept ≡ dedup (pointwise nat_eq) moved → AreAlike kept named
alike-sorted named moved kept p e value =
    both_ways (is_one_of kept value) (is_one_of named value)
    (λ h. held named value (Contains-permutation moved named value (IsPermutation-sym named moved p)
    (Contains-from_dedup (pointwise nat_eq) moved value (subst (λ (vs : List Key). Contains vs value) e (found kept value h)))))
    (λ h. held kept value (subst (λ (vs : List Key). Contains vs value) (sym e)
    (Contains-dedup nat_list_eq_equiv exact moved value (Contains-permutation named moved value p (found named value h)))))

pub sorted-values : (named copied moved kept : List Key) → copied ≡ named → IsPermutation copied moved → IsSorted order moved → IsFiltered (DiffersFromLast (pointwise nat_eq)) [] moved kept
    → AreSorted named kept
sorted-values named copied moved kept copies p up filtered =
    let e : kept ≡ dedup (pointwise nat_eq) moved = dedup_is (pointwise nat_eq) moved kept filtered in
    record {
      ascending = subst (IsStrictlySortedBy order) (sym e) (IsStrictlySortedBy-dedup nat_list_cmp_total texts_ties moved up);
      alike = subst (λ (vs : List Key). AreAlike kept vs) copies (alike-sorted copied moved kept p e);
    }

-- ---- none of them twice

none-tied : (value : Key) (values : List Key) → AllByRecursion (λ v. eq_by_cmp order value v ≡ false) values → is_one_of values value ≡ false
none-tied value [] h = refl
none-tied value (v ∷ values) h =
    rw (sym (pointwise-same value v) ∙ texts_ties value v ∙ h.0) (none-tied value values h.1)

once-distinct : (values : List Key) → IsDistinct (eq_by_cmp order) values → AreOnce values
unfolding IsDistinct
once-distinct [] h = tt
once-distinct (v ∷ values) h = (none-tied v values h.0, once-distinct values h.1)

pub once-sorted : (values : List Key) → IsStrictlySortedBy order values → AreOnce values
once-sorted values up = once-distinct values (IsDistinct-from_sorted order values up)

-- ---- the search

sorted-ascending : (values : List Key) → IsStrictlySortedBy order values → IsSortedBy (λ v w. is_lt (order v w)) values
unfolding IsStrictlySortedBy
sorted-ascending [] up k d l m = absurd (omega arith)
sorted-ascending (v ∷ []) up k d l m = absurd (omega arith)
sorted-ascending (v ∷ w ∷ values) up zero d l m = ap is_lt (nat_list_cmp_total.antisymm w v ∙ ap ordering_reverse up.0.0)
sorted-ascending (v ∷ w ∷ values) up (suc k) d l m =
    let rest = simp unary_clauses at (sorted-ascending (w ∷ values) up.1 k d (omega arith) (omega arith)) in
    simp unary_clauses rest

-- a word ties with itself
itself : (value : Key) → order value value ≡ Equal
itself value = by (order value value) (sym (texts_ties value value) ∙ nat_list_eq_equiv.refl value)
  where
    by : (o : Ordering) → is_eq o ≡ true → o ≡ Equal
    by Less h = absurd (false≢true h)
    by Equal h = refl
    by Greater h = absurd (false≢true h)

less-apart : (value there : Key) → there ≡ value → order there value ≡ Less → false ≡ true
less-apart value there e h = absurd (cc (sym (ap (λ (v : Key). order v value) e ∙ itself value) ∙ h))

greater-apart : (value there : Key) → there ≡ value → order there value ≡ Greater → false ≡ true
greater-apart value there e h = absurd (cc (sym (ap (λ (v : Key). order v value) e ∙ itself value) ∙ h))

-- A binary search in ascending values finds exactly those that are there.
pub searched : (values : List Key) (value : Key) (r : Result ℕ ℕ) → IsStrictlySortedBy order values → IsSearchInRange r (length values)
    → IsBinarySearchResult (λ v. order v value) values r → is_ok r ≡ is_one_of values value
searched values value (Ok i) up inside at = sym (held values value (i, inside, equal))
  where
    equal : get_or values i value ≡ value
    equal = exact (get_or values i value) value (texts_ties (get_or values i value) value ∙ ap is_eq (at value))
searched values value (Err i) up inside at = none (is_one_of values value) refl
  where
    split : ((k : ℕ) (d : Key) → 0 ≤ k → k < i → order (get_or values k d) value ≡ Less) × ((k : ℕ) (d : Key) → i ≤ k → k < length values → order (get_or values k d) value ≡ Greater)
    split = at (searchable_from_sorted nat_list_cmp_total (λ (v : Key). v) values value (sorted-ascending values up))

    place : Contains values value → (k : ℕ) → (k < length values) → get_or values k value ≡ value → (k ≡ i) ⊎ ((k < i) ⊎ (i < k)) → false ≡ true
    place h k l e (inl same) = greater-apart value (get_or values k value) e (split.1 k value (omega (arith, same)) l)
    place h k l e (inr (inl less)) = less-apart value (get_or values k value) e (split.0 k value (omega arith) less)
    place h k l e (inr (inr more)) = greater-apart value (get_or values k value) e (split.1 k value (omega (arith, more)) l)

    none : (b : Bool) → is_one_of values value ≡ b → false ≡ b
    none false h = refl
    none true h = let c = found values value h in place c c.0 c.1 c.2 (cases_order c.0 i)
