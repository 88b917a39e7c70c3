-- Ids sorted by their keys.
use Rattle.std.proofs.Common.{◌≡◌, ℕ, ◌+◌, Bool, true, false, List, [], ◌∷◌, map, length, get_or, refl, sym, ◌∙◌, ap, subst, nat_cmp, Less, Equal, Greater, Ordering, true≢false, arith}
use Rattle.std.specs.Option.{unwrap_or}
use Rattle.std.specs.Prelude.{Option, Some, if◌then◌else◌}
use Rattle.std.specs.BTreeMap.{is_at}
use Rattle.std.specs.BTreeSet.{BTreeSet}
use Rattle.std.specs.Cmp.Lexicographic.{slice_cmp, nat_list_cmp_total}
use Rattle.std.specs.List.{AllByRecursion, IsDistinct}
use Rattle.std.specs.List.Sorted.{IsPermutation, IsStrictlySortedBy, IsSortedByKey}
use Rattle.std.specs.Map.{keys_of}
use Rattle.std.specs.Ordering.{eq_by_cmp, is_eq, is_lt, ordering_reverse}
use Rattle.std.specs.Cmp.{eq_by_cmp_equiv}
use Rattle.std.proofs.lemmas.List.{get_or-map, length-map}
use Rattle.std.proofs.lemmas.List.Elements.{All-from_recursion, recursion_from_All}
use Rattle.std.proofs.lemmas.List.Sorted.{IsPermutation-map, IsPermutation-sym, IsPermutation-trans, All-permutation, list_any-IsPermutation}
use Rattle.std.proofs.lemmas.Map.Keys.{IsDistinct-IsPermutation, IsDistinct-from_sorted, apart_from_distinct, sorted_from_all_adjacent}
use Rattle.std.proofs.lemmas.Map.Lookups.{btree_set_from_contains, exact_bytes}
use Rattle.ts_spec.specs.Key.{Key}
use Rattle.ts_spec.specs.State.{Label}
use Rattle.ts_sample.specs.declared.sample.Id.{Id}
use Rattle.ts_index.specs.Index.{Labelled, ids_where}
use Rattle.ts_db.specs.Store.{Numbers, id_for_key}
use Rattle.ts_db.proofs.Tagged.{tagged, IsKnown, IsIndexOf, told}

abbrev cmp : Key → Key → Ordering
cmp = slice_cmp nat_cmp

-- what is not less, and not the same, is greater
below : (a b : Key) → is_lt (cmp b a) ≡ false → is_eq (cmp a b) ≡ false → cmp a b ≡ Less
below a b up apart = go (cmp a b) refl apart
  where
    go : (r : Ordering) → cmp a b ≡ r → is_eq r ≡ false → r ≡ Less
    go Less e n = refl
    go Equal e n = absurd (true≢false n)
    go Greater e n = absurd (true≢false (sym (ap is_lt (nat_list_cmp_total.antisymm b a ∙ ap ordering_reverse e)) ∙ up))

module _ (name : Id → Key) where
  abbrev pub names : List Id → List Key
  names ids = map name ids

  abbrev nobody : Id
  nobody = record { 0 = 0 }

  -- sorted by their keys, which differ
  sorted-names : (ids : List Id) → IsSortedByKey name cmp ids → IsDistinct (eq_by_cmp cmp) (names ids) → IsStrictlySortedBy cmp (names ids)
  sorted-names ids up apart = sorted_from_all_adjacent nat_list_cmp_total (names ids) (name nobody) (λ k less.
      let many : length (names ids) ≡ length ids = length-map ids name in
      let one : get_or (names ids) k (name nobody) ≡ name (get_or ids k nobody) = get_or-map name ids k nobody (name nobody) (omega (arith, many, less)) in
      let next : get_or (names ids) (k + 1) (name nobody) ≡ name (get_or ids (k + 1) nobody) = get_or-map name ids (k + 1) nobody (name nobody) (omega (arith, many, less)) in
      let differ = apart_from_distinct (eq_by_cmp cmp) (names ids) k (k + 1) (name nobody) apart (omega arith) less in
      below (get_or (names ids) k (name nobody)) (get_or (names ids) (k + 1) (name nobody))
      (ap is_lt (λ i. cmp (next i) (one i)) ∙ up k nobody (omega arith) (omega (arith, many, less))) differ)

  -- two lists of the same ids, both in the order of their keys, have the same keys
  same-names : (xs ys : List Id) → IsPermutation xs ys → IsStrictlySortedBy cmp (names xs) → IsSortedByKey name cmp ys → names xs ≡ names ys
  same-names xs ys moved sorted up =
      let turned : IsPermutation (names xs) (names ys) = IsPermutation-map name xs ys moved in
      let apart : IsDistinct (eq_by_cmp cmp) (names ys) =
      IsDistinct-IsPermutation (eq_by_cmp cmp) ((eq_by_cmp_equiv nat_list_cmp_total).symm) (names xs) (names ys) turned (IsDistinct-from_sorted cmp (names xs) sorted) in
      let left : BTreeSet Key = record { keys = names xs } in
      let right : BTreeSet Key = record { keys = names ys } in
      btree_set_from_contains nat_list_cmp_total left right sorted (sorted-names ys up apart)
      (λ q. list_any-IsPermutation (is_at (cmp q)) (names xs) (names ys) turned) exact_bytes

  -- and are the same, where each id is found by its key
  module _ (find : Key → Option Id) where
    same-list : (xs ys : List Id) → AllByRecursion (λ x. find (name x) ≡ Some x) xs → AllByRecursion (λ y. find (name y) ≡ Some y) ys → names xs ≡ names ys → xs ≡ ys
    same-list [] [] f g e = refl
    same-list [] (y ∷ ys) f g e = absurd (cc e)
    same-list (x ∷ xs) [] f g e = absurd (cc e)
    same-list (x ∷ xs) (y ∷ ys) f g e =
        let head : name x ≡ name y = cc e in
        let tail : names xs ≡ names ys = cc e in
        let one : x ≡ y = cc (sym f.0 ∙ ap find head ∙ g.0) in
        let rest : xs ≡ ys = same-list xs ys f.1 g.1 tail in
        λ i. one i ∷ rest i

    sorted-same : (xs ys : List Id) → IsPermutation xs ys → IsStrictlySortedBy cmp (names xs) → IsSortedByKey name cmp ys → AllByRecursion (λ x. find (name x) ≡ Some x) xs → xs ≡ ys
    sorted-same xs ys moved sorted up found = same-list xs ys found
        (recursion_from_All (λ x. find (name x) ≡ Some x) ys (All-permutation (λ x. find (name x) ≡ Some x) xs ys moved (All-from_recursion (λ x. find (name x) ≡ Some x) xs found)))
        (same-names xs ys moved sorted up)

  module _ (labels : ℕ → Option (List Label)) (test : List Label → Bool) where
    abbrev chosen : Numbers → List Id
    chosen es = ids_where test (tagged labels name es)

    -- one more, where it passes
    abbrev more : Bool → Id → List Id → List Id
    more b id ids = if b then id ∷ ids else ids

    all-more : (P : Id → Type 0) (b : Bool) (id : Id) (ids : List Id) → P id → AllByRecursion P ids → AllByRecursion P (more b id ids)
    all-more P true id ids p a = (p, a)
    all-more P false id ids p a = a

    all-chosen : (P : Id → Type 0) (es : Numbers) → AllByRecursion (λ e. P e.1) es → AllByRecursion P (chosen es)
    all-chosen P [] a = tt
    all-chosen P (e ∷ es) a = all-more P (test (unwrap_or (labels e.1.0) [])) e.1 (chosen es) a.0 (all-chosen P es a.1)

    below-more : (k : Key) (b : Bool) (id : Id) (ids : List Id) → cmp k (name id) ≡ Less → AllByRecursion (λ j. cmp k j ≡ Less) (names ids) → AllByRecursion (λ j. cmp k j ≡ Less) (names (more b id ids))
    below-more k true id ids p a = (p, a)
    below-more k false id ids p a = a

    below-chosen : (k : Key) (es : Numbers) → AllByRecursion (IsKnown labels name) es → AllByRecursion (λ j. cmp k j ≡ Less) (keys_of es) → AllByRecursion (λ j. cmp k j ≡ Less) (names (chosen es))
    below-chosen k [] known a = tt
    below-chosen k (e ∷ es) known a =
        below-more k (test (unwrap_or (labels e.1.0) [])) e.1 (chosen es) (ap (cmp k) known.0.named ∙ a.0) (below-chosen k es known.1 a.1)

    sorted-more : (b : Bool) (id : Id) (ids : List Id) → AllByRecursion (λ j. cmp (name id) j ≡ Less) (names ids) → IsStrictlySortedBy cmp (names ids) → IsStrictlySortedBy cmp (names (more b id ids))
    unfolding IsStrictlySortedBy
    sorted-more true id ids a s = (a, s)
    sorted-more false id ids a s = s

    sorted-chosen : (es : Numbers) → AllByRecursion (IsKnown labels name) es → IsStrictlySortedBy cmp (keys_of es) → IsStrictlySortedBy cmp (names (chosen es))
    unfolding IsStrictlySortedBy
    sorted-chosen [] known s = tt
    sorted-chosen (e ∷ es) known s =
        sorted-more (test (unwrap_or (labels e.1.0) [])) e.1 (chosen es)
        (subst (λ k. AllByRecursion (λ j. cmp k j ≡ Less) (names (chosen es))) (sym known.0.named) (below-chosen e.0 es known.1 s.0)) (sorted-chosen es known.1 s.1)

    -- The ids that the index selects, sorted by key, are those that a scan of all keys collects.
    pub by-key : (index : Labelled) (es : Numbers) → IsIndexOf labels name index es → (before after : List Id) → before ≡ ids_where test index → IsPermutation before after
        → IsSortedByKey name cmp after → after ≡ chosen es
    by-key index es is before after told_is moved up =
        let same : IsPermutation before (chosen es) = subst (λ (l : List Id). IsPermutation l (chosen es)) (sym told_is) (told labels name index es is test) in
        sym (sorted-same (λ k. id_for_key k es) (chosen es) after (IsPermutation-trans (chosen es) before after (IsPermutation-sym before (chosen es) same) moved)
        (sorted-chosen es is.known is.sorted) up
        (all-chosen (λ x. id_for_key (name x) es ≡ Some x) es is.found))
