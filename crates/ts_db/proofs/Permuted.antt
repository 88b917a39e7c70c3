-- Two lists with the same labels for each id select the same ids, in some order.
use Rattle.std.proofs.Common.{◌≡◌, ◌≢◌, ℕ, Bool, true, false, cond, List, [], ◌∷◌, refl, sym, ◌∙◌, ap, subst, nat_cmp, ◌<◌, true≢false, ⊎_elim, arith, lt-ltb}
use Rattle.std.specs.Prelude.{Option, None, Some, is_some, if◌then◌else◌}
use Rattle.std.specs.Option.{unwrap_or}
use Rattle.std.specs.BTreeMap.{is_at}
use Rattle.std.specs.Cmp.{Equal-is, IsEquivalence, eq_by_cmp_equiv, nat_cmp_total}
use Rattle.std.specs.List.{AllByRecursion, IsDistinct}
use Rattle.std.specs.List.Sorted.{IsPermutation}
use Rattle.std.specs.Map.{keys_of, remove_entry}
use Rattle.std.proofs.lemmas.Bool.{cases_Bool, cond-true, cond-false, cond_both}
use Rattle.std.proofs.lemmas.List.Sorted.{IsPermutation-refl, IsPermutation-sym, IsPermutation-trans, IsPermutation-cons, IsPermutation-swap}
use Rattle.std.proofs.lemmas.Map.{lookup-remove_entry}
use Rattle.std.proofs.lemmas.Map.Entries.{lookup_head, lookup_tail}
use Rattle.std.proofs.lemmas.Map.Keys.{IsDistinct-head, IsDistinct-tail, IsDistinct-cons}
use Rattle.std.proofs.lemmas.Map.Lookups.{exact_unsigned}
use Rattle.ts_spec.specs.State.{Label}
use Rattle.ts_sample.specs.declared.sample.Id.{Id}
use Rattle.ts_index.specs.Index.{Labelled, labels_of, ids_where}
use Rattle.ts_index.specs.Numbers.{AreInOrder}

-- whether an id is this one
abbrev pub at : ℕ → ℕ → Bool
at i = is_at (nat_cmp i)

laws : IsEquivalence at
laws = eq_by_cmp_equiv nat_cmp_total

pub at-same : (i j : ℕ) → at i j ≡ true → i ≡ j
at-same i j e = exact_unsigned i j ((Equal-is (nat_cmp i j)).0 e)

pub at-self : (i : ℕ) → at i i ≡ true
at-self i = laws.refl i

-- ---- without an id

all-without : (P : ℕ → Type 0) (test : ℕ → Bool) (es : Labelled) → AllByRecursion P (keys_of es) → AllByRecursion P (keys_of (remove_entry test es))
all-without P test [] a = tt
all-without P test (e ∷ es) a = cond_both (test e.0) es (e ∷ remove_entry test es) (λ (l : Labelled). AllByRecursion P (keys_of l)) (λ _. a.1) (λ _. (a.0, all-without P test es a.1))

distinct-without : (test : ℕ → Bool) (es : Labelled) → IsDistinct at (keys_of es) → IsDistinct at (keys_of (remove_entry test es))
distinct-without test [] d = d
distinct-without test (e ∷ es) d =
    let rest = IsDistinct-tail at e.0 (keys_of es) d in
    cond_both (test e.0) es (e ∷ remove_entry test es) (λ (l : Labelled). IsDistinct at (keys_of l)) (λ _. rest)
    (λ _. IsDistinct-cons at e.0 _ (all-without (λ y. at e.0 y ≡ false) test es (IsDistinct-head at e.0 (keys_of es) d)) (distinct-without test es rest))

none-some : (ls : List Label) → Some ls ≢ None
none-some ls e = true≢false (ap is_some e)

-- ---- the ids of entries that pass a test

module _ (test : List Label → Bool) where
  -- one more at the front of both
  both : (e : ℕ × List Label) (xs ys : Labelled) → IsPermutation (ids_where test xs) (ids_where test ys) → IsPermutation (ids_where test (e ∷ xs)) (ids_where test (e ∷ ys))
  both e xs ys p = go (test e.1)
    where
      go : (b : Bool) → IsPermutation (if b then record { 0 = e.0 } ∷ ids_where test xs else ids_where test xs) (if b then record { 0 = e.0 } ∷ ids_where test ys else ids_where test ys)
      go true = IsPermutation-cons (record { 0 = e.0 }) (ids_where test xs) (ids_where test ys) p
      go false = p

  -- an id in front of others, where it passes
  abbrev some : Bool → ℕ → List Id → List Id
  some b i l = if b then record { 0 = i } ∷ l else l

  -- the first two change places
  turned : (d e : ℕ × List Label) (xs : Labelled) → IsPermutation (ids_where test (d ∷ e ∷ xs)) (ids_where test (e ∷ d ∷ xs))
  turned d e xs = go (test d.1) (test e.1)
    where
      go : (a b : Bool) → IsPermutation (some a d.0 (some b e.0 (ids_where test xs))) (some b e.0 (some a d.0 (ids_where test xs)))
      go true true = IsPermutation-swap (record { 0 = d.0 } ∷ record { 0 = e.0 } ∷ ids_where test xs) (record { 0 = e.0 } ∷ record { 0 = d.0 } ∷ ids_where test xs) 0 1 (omega arith) (omega arith) refl
      go true false = IsPermutation-refl _
      go false true = IsPermutation-refl _
      go false false = IsPermutation-refl _

  same : (xs ys : Labelled) → xs ≡ ys → IsPermutation (ids_where test xs) (ids_where test ys)
  same xs ys e = subst (λ (l : Labelled). IsPermutation (ids_where test xs) (ids_where test l)) e (IsPermutation-refl (ids_where test xs))

  -- an id that is there comes to the front
  pulled : (q : ℕ) (v : List Label) (es : Labelled) → labels_of q es ≡ Some v → IsPermutation (ids_where test es) (ids_where test ((q, v) ∷ remove_entry (at q) es))
  pulled q v [] h = absurd (none-some v (sym h))
  pulled q v (e ∷ es) h =
      let more : Labelled = remove_entry (at q) es in
      ⊎_elim
      (λ y.
      let value : v ≡ e.1 = ap (λ (u : Option (List Label)). unwrap_or u v) (sym h ∙ lookup_head (at q) e es y) in
      let number : q ≡ e.0 = at-same q e.0 y in
      same (e ∷ es) ((q, v) ∷ remove_entry (at q) (e ∷ es)) (λ j. (sym number j, sym value j) ∷ sym (cond-true (at q e.0) es (e ∷ more) y) j))
      (λ n.
      let rest = both e es ((q, v) ∷ more) (pulled q v es (sym (lookup_tail (at q) e es n) ∙ h)) in
      IsPermutation-trans _ _ _ rest (IsPermutation-trans _ _ _ (turned e (q, v) more) (both (q, v) (e ∷ more) (remove_entry (at q) (e ∷ es)) (same (e ∷ more) (remove_entry (at q) (e ∷ es)) (sym (cond-false (at q e.0) es (e ∷ more) n))))))
      (cases_Bool (at q e.0))

  -- Where each id is there once at most, and has the same labels in both, the same ids pass.
  pub same-numbers : (xs ys : Labelled) → IsDistinct at (keys_of xs) → IsDistinct at (keys_of ys) → ((i : ℕ) → labels_of i xs ≡ labels_of i ys) → IsPermutation (ids_where test xs) (ids_where test ys)
  same-numbers [] [] c d h = IsPermutation-refl []
  same-numbers [] (y ∷ ys) c d h = absurd (none-some y.1 (sym (h y.0 ∙ lookup_head (at y.0) y ys (laws.refl y.0))))
  same-numbers (x ∷ xs) ys c d h =
      let k : ℕ = x.0 in
      let gone : remove_entry (at k) (x ∷ xs) ≡ xs = cond-true (at k k) xs (x ∷ remove_entry (at k) xs) (laws.refl k) in
      let others = same-numbers xs (remove_entry (at k) ys) (IsDistinct-tail at k (keys_of xs) c) (distinct-without (at k) ys d)
      (λ q. ap (labels_of q) (sym gone) ∙ lookup-remove_entry laws (at k) (laws.congr k) q (x ∷ xs) c ∙ ap (cond (at k q) None) (h q) ∙ sym (lookup-remove_entry laws (at k) (laws.congr k) q ys d)) in
      IsPermutation-trans _ _ _ (both x xs (remove_entry (at k) ys) others) (IsPermutation-sym _ _ (pulled k x.1 ys (sym (h k) ∙ lookup_head (at k) x xs (laws.refl k))))

-- ---- ids in order

less-apart : (i j : ℕ) → i < j → at i j ≡ false
less-apart i j l = rw (lt-ltb i j l) refl

after-apart : (i : ℕ) (es : Labelled) → AllByRecursion (λ f. i < f.0) es → AllByRecursion (λ j. at i j ≡ false) (keys_of es)
after-apart i [] a = tt
after-apart i (e ∷ es) a = (less-apart i e.0 a.0, after-apart i es a.1)

-- ids in ascending order are there once
pub distinct-ordered : (es : Labelled) → AreInOrder es → IsDistinct at (keys_of es)
unfolding IsDistinct
distinct-ordered [] a = tt
distinct-ordered (e ∷ es) a = (after-apart e.0 es a.0, distinct-ordered es a.1)
