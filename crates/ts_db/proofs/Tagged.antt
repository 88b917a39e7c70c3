-- The selected ids of the index and the selected keys, in key order.
use Rattle.std.proofs.Common.{◌≡◌, ℕ, Bool, true, false, List, [], ◌∷◌, refl, sym, ◌∙◌, ap, nat_cmp, ⊎_elim, Less}
use Rattle.std.specs.Prelude.{Option, None, Some}
use Rattle.std.specs.Option.{unwrap_or}
use Rattle.std.specs.BTreeMap.{is_at}
use Rattle.std.specs.Cmp.{tied_itself}
use Rattle.std.specs.Cmp.Lexicographic.{slice_cmp, nat_list_cmp_total}
use Rattle.std.specs.List.{AllByRecursion, IsDistinct}
use Rattle.std.specs.List.Sorted.{IsPermutation, IsStrictlySortedBy}
use Rattle.std.specs.Map.{keys_of}
use Rattle.std.proofs.lemmas.Bool.{cases_Bool}
use Rattle.std.proofs.lemmas.Map.Entries.{lookup_head, lookup_tail}
use Rattle.std.proofs.lemmas.Map.Keys.{IsDistinct-cons}
use Rattle.ts_spec.specs.Key.{Key}
use Rattle.ts_spec.specs.State.{Label}
use Rattle.ts_sample.specs.declared.sample.Id.{Id}
use Rattle.ts_index.specs.Index.{Labelled, labels_of, ids_where}
use Rattle.ts_db.specs.Store.{Numbers, id_for_key}
use Rattle.ts_db.proofs.Permuted.{at, at-same, at-self, same-numbers}

module _ (labels : ℕ → Option (List Label)) (name : Id → Key) where
  -- the labels of each id, in the order of the keys
  abbrev pub tagged : Numbers → Labelled
  tagged [] = []
  tagged (e ∷ es) = (e.1.0, unwrap_or (labels e.1.0) []) ∷ tagged es

  -- an id has labels, and its key is this one
  pub record IsKnown (e : Key × Id) : Type 0 where
    pub its : List Label
    pub has : labels e.1.0 ≡ Some its
    pub named : name e.1 ≡ e.0

  -- The index has the labels of the ids of all keys, and of no others.
  pub record IsIndexOf (index : Labelled) (es : Numbers) : Type 0 where
    pub sorted : IsStrictlySortedBy (slice_cmp nat_cmp) (keys_of es)
    pub once : IsDistinct at (keys_of index)
    pub known : AllByRecursion IsKnown es
    pub found : AllByRecursion (λ e. id_for_key (name e.1) es ≡ Some e.1) es
    pub owned : (i : ℕ) (ls : List Label) → labels i ≡ Some ls → (k : Key) × (id_for_key k es ≡ Some (record { 0 = i }))
    pub indexed : (i : ℕ) → labels_of i index ≡ labels i

  missing : (i : ℕ) (es : Numbers) → labels i ≡ None → AllByRecursion IsKnown es → labels_of i (tagged es) ≡ None
  missing i [] none known = refl
  missing i (e ∷ es) none known = ⊎_elim
      (λ y. absurd (cc (sym none ∙ ap labels (at-same i e.1.0 y) ∙ known.0.has)))
      (λ n. lookup_tail (at i) (e.1.0, unwrap_or (labels e.1.0) []) (tagged es) n ∙ missing i es none known.1)
      (cases_Bool (at i e.1.0))

  there : (i : ℕ) (ls : List Label) (k : Key) (es : Numbers) → labels i ≡ Some ls → id_for_key k es ≡ Some (record { 0 = i }) → labels_of i (tagged es) ≡ Some ls
  there i ls k [] has found = absurd (cc found)
  there i ls k (e ∷ es) has found = ⊎_elim
      (λ y. lookup_head (at i) (e.1.0, unwrap_or (labels e.1.0) []) (tagged es) y
      ∙ ap (λ (o : Option (List Label)). Some (unwrap_or o [])) (ap labels (sym (at-same i e.1.0 y)) ∙ has))
      (λ n. lookup_tail (at i) (e.1.0, unwrap_or (labels e.1.0) []) (tagged es) n
      ∙ ⊎_elim
      (λ (m : is_at (slice_cmp nat_cmp k) e.0 ≡ true).
      let one : e.1.0 ≡ i = ap (λ (o : Option Id). (unwrap_or o e.1).0) (sym (lookup_head (is_at (slice_cmp nat_cmp k)) e es m) ∙ found) in
      absurd (cc (sym n ∙ ap (at i) one ∙ at-self i)))
      (λ m. there i ls k es has (sym (lookup_tail (is_at (slice_cmp nat_cmp k)) e es m) ∙ found))
      (cases_Bool (is_at (slice_cmp nat_cmp k) e.0)))
      (cases_Bool (at i e.1.0))

  apart : (e : Key × Id) (es : Numbers) → name e.1 ≡ e.0 → AllByRecursion (λ k. slice_cmp nat_cmp e.0 k ≡ Less) (keys_of es) → AllByRecursion IsKnown es
      → AllByRecursion (λ j. at e.1.0 j ≡ false) (keys_of (tagged es))
  apart e [] named below known = tt
  apart e (f ∷ es) named below known = (
    ⊎_elim
        (λ y.
        let one : e.1 ≡ f.1 = λ i. record { 0 = at-same e.1.0 f.1.0 y i } in
        let key : e.0 ≡ f.0 = sym named ∙ ap name one ∙ known.0.named in
        absurd (cc (sym (tied_itself nat_list_cmp_total e.0) ∙ ap (slice_cmp nat_cmp e.0) key ∙ below.0)))
        (λ n. n)
        (cases_Bool (at e.1.0 f.1.0)),
    apart e es named below.1 known.1,
  )

  distinct : (es : Numbers) → IsStrictlySortedBy (slice_cmp nat_cmp) (keys_of es) → AllByRecursion IsKnown es → IsDistinct at (keys_of (tagged es))
  unfolding IsStrictlySortedBy IsDistinct
  distinct [] sorted known = tt
  distinct (e ∷ es) sorted known = IsDistinct-cons at e.1.0 (keys_of (tagged es)) (apart e es known.0.named sorted.0 known.1) (distinct es sorted.1 known.1)

  module _ (index : Labelled) (es : Numbers) (is : IsIndexOf index es) where
    same-labels : (i : ℕ) → labels_of i index ≡ labels_of i (tagged es)
    same-labels i = is.indexed i ∙ go (labels i) refl
      where
        go : (o : Option (List Label)) → labels i ≡ o → labels i ≡ labels_of i (tagged es)
        go None e = e ∙ sym (missing i es e is.known)
        go (Some ls) e = e ∙ sym (there i ls (is.owned i ls e).0 es e (is.owned i ls e).1)

    -- the ids that the index tells of a test are those of the keys, in some order
    pub told : (test : List Label → Bool) → IsPermutation (ids_where test index) (ids_where test (tagged es))
    told test = same-numbers test index (tagged es) is.once (distinct es is.sorted is.known) same-labels
