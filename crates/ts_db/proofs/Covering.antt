-- Candidate ids: their keys, and those of these keys that pass the filters.
use Rattle.std.proofs.Common.{◌≡◌, ℕ, Bool, true, false, cond, List, [], ◌∷◌, map, refl, sym, ◌∙◌, ap, subst, ⊎_elim}
use Rattle.std.specs.Prelude.{◌||◌, Option, None, Some, if◌then◌else◌}
use Rattle.std.specs.Option.{unwrap_or}
use Rattle.std.specs.Cmp.{eq_by_cmp_equiv, nat_cmp_total}
use Rattle.std.specs.List.{AllByRecursion, IsDistinct, filter, list_any}
use Rattle.std.specs.List.Sorted.{IsPermutation}
use Rattle.std.specs.Map.{keys_of}
use Rattle.std.proofs.lemmas.Bool.{cases_Bool, cond_both}
use Rattle.std.proofs.lemmas.Map.Entries.{lookup_head, lookup_tail, lookup-filter-values, option_filter}
use Rattle.std.proofs.lemmas.Map.Keys.{IsDistinct-head, IsDistinct-tail, IsDistinct-cons}
use Rattle.ts_spec.specs.State.{Label}
use Rattle.ts_sample.specs.declared.sample.Id.{Id}
use Rattle.ts_index.specs.Index.{Labelled, labels_of, ids_where}
use Rattle.ts_db.proofs.Permuted.{at, at-same, same-numbers}

-- ---- the entries that pass a test

module _ (test : List Label → Bool) where
  abbrev kept : Labelled → Labelled
  kept es = filter (λ (e : ℕ × List Label). test e.1) es

  all-kept : (P : ℕ → Type 0) (es : Labelled) → AllByRecursion P (keys_of es) → AllByRecursion P (keys_of (kept es))
  all-kept P [] a = tt
  all-kept P (e ∷ es) a = cond_both (test e.1) (e ∷ kept es) (kept es) (λ (l : Labelled). AllByRecursion P (keys_of l)) (λ _. (a.0, all-kept P es a.1)) (λ _. all-kept P es a.1)

  distinct-kept : (es : Labelled) → IsDistinct at (keys_of es) → IsDistinct at (keys_of (kept es))
  distinct-kept [] d = d
  distinct-kept (e ∷ es) d =
      let rest = distinct-kept es (IsDistinct-tail at e.0 (keys_of es) d) in
      cond_both (test e.1) (e ∷ kept es) (kept es) (λ (l : Labelled). IsDistinct at (keys_of l))
      (λ _. IsDistinct-cons at e.0 (keys_of (kept es)) (all-kept (λ y. at e.0 y ≡ false) es (IsDistinct-head at e.0 (keys_of es) d)) rest) (λ _. rest)

  numbers-kept : (es : Labelled) → ids_where (λ labels. true) (kept es) ≡ ids_where test es
  numbers-kept [] = refl
  numbers-kept (e ∷ es) = go (test e.1) (numbers-kept es)
    where
      go : (b : Bool) → ids_where (λ labels. true) (kept es) ≡ ids_where test es
          → ids_where (λ labels. true) (cond b (e ∷ kept es) (kept es)) ≡ (if b then record { 0 = e.0 } ∷ ids_where test es else ids_where test es)
      go true rest = ap (λ (l : List Id). record { 0 = e.0 } ∷ l) rest
      go false rest = rest

  -- Where each id is there once at most, and has the same labels that pass in both, the same ids pass.
  pub same-passing : (xs ys : Labelled) → IsDistinct at (keys_of xs) → IsDistinct at (keys_of ys) → ((i : ℕ) → option_filter test (labels_of i xs) ≡ option_filter test (labels_of i ys))
      → IsPermutation (ids_where test xs) (ids_where test ys)
  same-passing xs ys c d same =
      let laws = eq_by_cmp_equiv nat_cmp_total in
      let moved = same-numbers (λ labels. true) (kept xs) (kept ys) (distinct-kept xs c) (distinct-kept ys d)
      (λ i. lookup-filter-values laws test i xs c ∙ same i ∙ sym (lookup-filter-values laws test i ys d)) in
      subst (λ (l : List Id). IsPermutation (ids_where test xs) l) (numbers-kept ys)
      (subst (λ (l : List Id). IsPermutation l (ids_where (λ labels. true) (kept ys))) (numbers-kept xs) moved)

-- ---- the labels of candidate ids

abbrev pub numbers : List Id → List ℕ
numbers ids = map (λ i. i.0) ids

module _ (labels : ℕ → Option (List Label)) where
  abbrev pub lent : List Id → Labelled
  lent [] = []
  lent (c ∷ cs) = (c.0, unwrap_or (labels c.0) []) ∷ lent cs

  keys-lent : (cs : List Id) → keys_of (lent cs) ≡ numbers cs
  keys-lent [] = refl
  keys-lent (c ∷ cs) = ap (λ (l : List ℕ). c.0 ∷ l) (keys-lent cs)

  lent-there : (i : ℕ) (cs : List Id) → list_any (at i) (numbers cs) ≡ true → labels_of i (lent cs) ≡ Some (unwrap_or (labels i) [])
  lent-there i [] h = absurd (cc h)
  lent-there i (c ∷ cs) h = ⊎_elim
      (λ y. lookup_head (at i) (c.0, unwrap_or (labels c.0) []) (lent cs) y ∙ ap (λ (j : ℕ). Some (unwrap_or (labels j) [])) (sym (at-same i c.0 y)))
      (λ n. lookup_tail (at i) (c.0, unwrap_or (labels c.0) []) (lent cs) n ∙ lent-there i cs (sym (ap (λ (b : Bool). b || list_any (at i) (numbers cs)) n) ∙ h))
      (cases_Bool (at i c.0))

  lent-missing : (i : ℕ) (cs : List Id) → list_any (at i) (numbers cs) ≡ false → labels_of i (lent cs) ≡ None
  lent-missing i [] h = refl
  lent-missing i (c ∷ cs) h = ⊎_elim
      (λ y. absurd (cc (sym (ap (λ (b : Bool). b || list_any (at i) (numbers cs)) y) ∙ h)))
      (λ n. lookup_tail (at i) (c.0, unwrap_or (labels c.0) []) (lent cs) n ∙ lent-missing i cs (sym (ap (λ (b : Bool). b || list_any (at i) (numbers cs)) n) ∙ h))
      (cases_Bool (at i c.0))

  -- a candidate id has labels
  lent-live : (i : ℕ) (cs : List Id) → AllByRecursion (λ c. (ls : List Label) × (labels c.0 ≡ Some ls)) cs → list_any (at i) (numbers cs) ≡ true → labels i ≡ None → ⊥
  lent-live i [] live h none = cc h
  lent-live i (c ∷ cs) live h none = ⊎_elim
      (λ y. cc (sym (ap labels (at-same i c.0 y)) ∙ none, live.0.1))
      (λ n. lent-live i cs live.1 (sym (ap (λ (b : Bool). b || list_any (at i) (numbers cs)) n) ∙ h) none)
      (cases_Bool (at i c.0))

  module _ (test : List Label → Bool) (index : Labelled) (cs : List Id) (once : IsDistinct at (keys_of index)) (indexed : (i : ℕ) → labels_of i index ≡ labels i)
      (live : AllByRecursion (λ c. (ls : List Label) × (labels c.0 ≡ Some ls)) cs) (distinct : IsDistinct at (numbers cs))
      (covers : (i : ℕ) (ls : List Label) → labels i ≡ Some ls → test ls ≡ true → list_any (at i) (numbers cs) ≡ true) where
    alike : (i : ℕ) (o : Option (List Label)) (b : Bool) → labels i ≡ o → list_any (at i) (numbers cs) ≡ b → option_filter test o ≡ option_filter test (labels_of i (lent cs))
    alike i None true at_i is = absurd (lent-live i cs live is at_i)
    alike i None false at_i is = sym (ap (option_filter test) (lent-missing i cs is))
    alike i (Some ls) true at_i is = sym (ap (option_filter test) (lent-there i cs is ∙ ap (λ (o : Option (List Label)). Some (unwrap_or o [])) at_i))
    alike i (Some ls) false at_i is = go (test ls) refl ∙ sym (ap (option_filter test) (lent-missing i cs is))
      where
        go : (b : Bool) → test ls ≡ b → cond b (Some ls) None ≡ None
        go true pass = absurd (cc (sym is ∙ covers i ls at_i pass))
        go false pass = refl

    -- the candidate ids that pass are those that the index selects, in some order
    pub lent-passing : IsPermutation (ids_where test index) (ids_where test (lent cs))
    lent-passing = same-passing test index (lent cs) once (subst (IsDistinct at) (sym (keys-lent cs)) distinct)
        (λ i. ap (option_filter test) (indexed i) ∙ alike i (labels i) (list_any (at i) (numbers cs)) refl refl)
