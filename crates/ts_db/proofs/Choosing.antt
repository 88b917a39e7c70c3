-- Selections by the label index, in terms of keys.
use Rattle.std.proofs.Common.{◌≡◌, ℕ, suc, ◌*◌, Bool, true, false, List, [], ◌∷◌, length, refl, sym, ◌∙◌, ap, subst, nat_cmp, min}
use Rattle.std.specs.Prelude.{Option, None, Some, option_map, if◌then◌else◌}
use Rattle.std.specs.Option.{unwrap_or}
use Rattle.std.specs.Cmp.Lexicographic.{slice_cmp}
use Rattle.std.specs.List.{All, AllByRecursion, IsDistinct}
use Rattle.std.specs.List.Sorted.{IsPermutation, IsStrictlySortedBy, IsSortedByKey}
use Rattle.std.specs.Map.{keys_of}
use Rattle.std.proofs.lemmas.List.Elements.{recursion_from_All}
use Rattle.std.proofs.lemmas.List.Sorted.{length_permutation}
use Rattle.slab.specs.Slab as slab
use Rattle.ts_spec.specs.Filter.{Filter, holds, all_hold, is_positive}
use Rattle.ts_spec.specs.Key.{Key}
use Rattle.ts_spec.specs.Keyed.{Entry}
use Rattle.ts_spec.specs.StoredSeries.{StoredSeries, StoredKeys}
use Rattle.ts_spec.specs.StoredQueries.{stored_selection}
use Rattle.ts_spec.specs.State.{Label}
use Rattle.ts_sample.specs.declared.sample.Id.{Id}
use Rattle.ts_index.specs.Index.{Labelled, ids_where}
use Rattle.ts_index.specs.Numbers.{AreAscending, AreInOrder}
use Rattle.ts_index.specs.Bounds as index
use Rattle.ts_index.proofs.NumberLemmas.{AreAscending-where}
use Rattle.ts_db.specs.declared.node.Node.{Node}
use Rattle.ts_db.specs.declared.store.Store.{Store}
use Rattle.ts_db.specs.Bounds.{count_where, fewest, selection_steps}
use Rattle.ts_db.specs.DbState.{DbView, AreIdsOf}
use Rattle.ts_db.specs.Indexed.{IsIndexed}
use Rattle.ts_db.specs.KeyOrder.{among}
use Rattle.ts_db.specs.Store.{Nodes, Numbers, key_at, key_in, stored_node, stored_by_key, ids_of, id_for_key, IsInOrder}
use Rattle.ts_db.proofs.Collecting.{get-ids}
use Rattle.ts_db.proofs.Permuted.{at, distinct-ordered}
use Rattle.ts_db.proofs.Tagged.{tagged, IsKnown, IsIndexOf, told}
use Rattle.ts_db.proofs.ByKey.{by-key}
use Rattle.ts_db.proofs.Walked.{in_key_order}
use Rattle.ts_db.proofs.Selecting.{chosen, passes, onto, listing, listing-entries, HaveNodes, all-there, all-found, chosen-selected}

-- the labels of the node of an id
abbrev pub labels_in : Nodes → ℕ → Option (List Label)
labels_in nodes i = option_map (λ n. n.labels) (slab.get nodes i)

abbrev pub tags : Nodes → Numbers → Labelled
tags nodes es = tagged (labels_in nodes) (key_in nodes) es

-- the names of stored ids
all-known : (nodes : Nodes) (all es : Numbers) → ((k : Key) (id : Id) (n : Node) → id_for_key k all ≡ Some id → slab.get nodes id.0 ≡ Some n → n.key ≡ k)
    → HaveNodes nodes es → AllByRecursion (λ e. id_for_key e.0 all ≡ Some e.1) es → AllByRecursion (IsKnown (labels_in nodes) (key_in nodes)) es
all-known nodes all [] named there found = tt
all-known nodes all (e ∷ es) named there found = (
  record {
    its = there.0.0.labels;
    has = ap (option_map (λ (n : Node). n.labels)) there.0.1;
    named = ap key_at there.0.1 ∙ named e.0 e.1 there.0.0 found.0 there.0.1;
  },
  all-known nodes all es named there.1 found.1,
)

named-found : (nodes : Nodes) (all es : Numbers) → AllByRecursion (IsKnown (labels_in nodes) (key_in nodes)) es → AllByRecursion (λ e. id_for_key e.0 all ≡ Some e.1) es
    → AllByRecursion (λ e. id_for_key (key_in nodes e.1) all ≡ Some e.1) es
named-found nodes all [] known found = tt
named-found nodes all (e ∷ es) known found = (ap (λ k. id_for_key k all) known.0.named ∙ found.0, named-found nodes all es known.1 found.1)

chosen-tags : (nodes : Nodes) (fs : List Filter) (es : Numbers) → HaveNodes nodes es → ids_where (all_hold fs) (tags nodes es) ≡ chosen nodes fs es
chosen-tags nodes fs [] there = refl
chosen-tags nodes fs (e ∷ es) there = go (slab.get nodes e.1.0) there.0.1 (chosen-tags nodes fs es there.1)
  where
    go : (o : Option Node) → o ≡ Some there.0.0 → ids_where (all_hold fs) (tags nodes es) ≡ chosen nodes fs es
        → (if all_hold fs (unwrap_or (option_map (λ (n : Node). n.labels) o) []) then e.1 ∷ ids_where (all_hold fs) (tags nodes es) else ids_where (all_hold fs) (tags nodes es))
        ≡ (if passes fs (option_map (stored_node nodes) o) then e.1 ∷ chosen nodes fs es else chosen nodes fs es)
    go None at rest = absurd (cc at)
    go (Some n) at rest = ap (λ (l : List Id). if all_hold fs n.labels then e.1 ∷ l else l) rest

count-tags : (nodes : Nodes) (test : List Label → Bool) (es : Numbers) → HaveNodes nodes es → length (ids_where test (tags nodes es)) ≡ count_where test (listing nodes es)
count-tags nodes test [] there = refl
count-tags nodes test (e ∷ es) there = go (slab.get nodes e.1.0) there.0.1 (count-tags nodes test es there.1)
  where
    one : (b : Bool) → length (ids_where test (tags nodes es)) ≡ count_where test (listing nodes es)
        → length (if b then e.1 ∷ ids_where test (tags nodes es) else ids_where test (tags nodes es)) ≡ (if b then suc (count_where test (listing nodes es)) else count_where test (listing nodes es))
    one true rest = ap suc rest
    one false rest = rest

    go : (o : Option Node) → o ≡ Some there.0.0 → length (ids_where test (tags nodes es)) ≡ count_where test (listing nodes es)
        → length (if test (unwrap_or (option_map (λ (n : Node). n.labels) o) []) then e.1 ∷ ids_where test (tags nodes es) else ids_where test (tags nodes es))
        ≡ count_where test (onto e.0 (option_map (stored_node nodes) o) (listing nodes es))
    go None at rest = absurd (cc at)
    go (Some n) at rest = one (test n.labels) rest

length-all : (xs : Labelled) → length (ids_where (λ labels. true) xs) ≡ length xs
length-all [] = refl
length-all (x ∷ xs) = ap suc (length-all xs)

count-all : (es : List (Entry StoredSeries)) → count_where (λ labels. true) es ≡ length es
count-all [] = refl
count-all (e ∷ es) = ap suc (count-all es)

-- The index has the labels of the nodes of all keys.
pub record IsTold (nodes : Nodes) (es : Numbers) (told_by : Labelled) : Type 0 where
  pub stored : (k : Key) (id : Id) → id_for_key k es ≡ Some id → (n : Node) × (slab.get nodes id.0 ≡ Some n)
  pub named : (k : Key) (id : Id) (n : Node) → id_for_key k es ≡ Some id → slab.get nodes id.0 ≡ Some n → n.key ≡ k
  pub owned : (i : ℕ) (n : Node) → slab.get nodes i ≡ Some n → id_for_key n.key es ≡ Some (record { 0 = i })
  pub sorted : IsStrictlySortedBy (slice_cmp nat_cmp) (keys_of es)
  pub found : All (λ e. id_for_key e.0 es ≡ Some e.1) es
  pub indexed : IsIndexed nodes told_by
  pub once : IsDistinct at (keys_of told_by)

pub is-told : (s : Store) → IsInOrder s → (told_by : Labelled) → IsIndexed s.nodes told_by → AreInOrder told_by → IsStrictlySortedBy (slice_cmp nat_cmp) (keys_of s.keys.entries)
    → All (λ e. id_for_key e.0 s.keys.entries ≡ Some e.1) s.keys.entries → IsTold s.nodes s.keys.entries told_by
is-told s store told_by indexed ordered sorted found =
    record { stored = store.stored; named = store.named; owned = store.owned; sorted = sorted; found = found; indexed = indexed; once = distinct-ordered told_by ordered }

module _ (nodes : Nodes) (es : Numbers) (told_by : Labelled) (is : IsTold nodes es told_by) where
  open is use {stored, named, owned, sorted, found, indexed, once}

  pub there : HaveNodes nodes es
  there = all-there nodes es es stored found

  each : AllByRecursion (λ (e : Key × Id). id_for_key e.0 es ≡ Some e.1) es
  each = recursion_from_All (λ (e : Key × Id). id_for_key e.0 es ≡ Some e.1) es found

  pub known : AllByRecursion (IsKnown (labels_in nodes) (key_in nodes)) es
  known = all-known nodes es es named there each

  owner : (i : ℕ) (ls : List Label) → labels_in nodes i ≡ Some ls → (k : Key) × (id_for_key k es ≡ Some (record { 0 = i }))
  owner i ls e = go (slab.get nodes i) refl e
    where
      go : (o : Option Node) → slab.get nodes i ≡ o → option_map (λ (n : Node). n.labels) o ≡ Some ls → (k : Key) × (id_for_key k es ≡ Some (record { 0 = i }))
      go None at e = absurd (cc e)
      go (Some n) at e = (n.key, owned i n at)

  pub is-index : IsIndexOf (labels_in nodes) (key_in nodes) told_by es
  is-index = record { sorted = sorted; once = once; known = known; found = named-found nodes es es known each; owned = owner; indexed = indexed }

  -- the ids that the index selects are in ascending order
  pub select-ascends : (fs : List Filter) (ids : List Id) → AreInOrder told_by → ids ≡ ids_where (all_hold fs) told_by → AreAscending ids
  select-ascends fs ids ordered is = subst AreAscending (sym is) (AreAscending-where (all_hold fs) told_by ordered)

  -- Those that a walk over the keys takes of them are those of the keys that the filters select.
  pub walk-numbers : (fs : List Filter) (ids after : List Id) → AreInOrder told_by → ids ≡ ids_where (all_hold fs) told_by → after ≡ among ids es
      → AreIdsOf (ids_of es) (stored_selection (stored_by_key nodes es) fs) after
  walk-numbers fs ids after ordered is walk =
      subst (AreIdsOf (ids_of es) (stored_selection (stored_by_key nodes es) fs))
      (sym (walk ∙ ap (λ (l : List Id). among l es) is ∙ in_key_order (labels_in nodes) (key_in nodes) (all_hold fs) told_by ordered indexed es known ∙ chosen-tags nodes fs es there))
      (chosen-selected nodes (ids_of es) fs es sorted there (all-found (ids_of es) es es (λ key. get-ids key es) found))

  -- The ids that the index selects, in key order, are those of the selected keys.
  pub select-numbers : (fs : List Filter) (before after : List Id) → before ≡ ids_where (all_hold fs) told_by → IsPermutation before after → IsSortedByKey (key_in nodes) (slice_cmp nat_cmp) after
      → AreIdsOf (ids_of es) (stored_selection (stored_by_key nodes es) fs) after
  select-numbers fs before after is moved up =
      subst (AreIdsOf (ids_of es) (stored_selection (stored_by_key nodes es) fs))
      (sym (by-key (key_in nodes) (labels_in nodes) (all_hold fs) told_by es is-index before after is moved up ∙ chosen-tags nodes fs es there))
      (chosen-selected nodes (ids_of es) fs es sorted there (all-found (ids_of es) es es (λ key. get-ids key es) found))

  -- as many ids pass a test as keys do
  count : (test : List Label → Bool) → length (ids_where test told_by) ≡ count_where test (stored_by_key nodes es).entries
  count test =
      sym (length_permutation (ids_where test told_by) (ids_where test (tags nodes es)) (told (labels_in nodes) (key_in nodes) told_by es is-index test))
      ∙ count-tags nodes test es there ∙ ap (count_where test) (sym (listing-entries nodes es sorted there))

  module _ (db_view : DbView) (kept : db_view.keys ≡ stored_by_key nodes es) where
    counts : (test : List Label → Bool) → length (ids_where test told_by) ≡ count_where test db_view.keys.entries
    counts test = count test ∙ ap (λ (m : StoredKeys). count_where test m.entries) (sym kept)

    pub fewest-same : (fs : List Filter) → index.fewest told_by fs ≡ fewest db_view fs
    fewest-same [] = sym (length-all told_by) ∙ counts (λ labels. true) ∙ count-all db_view.keys.entries
    fewest-same (f ∷ fs) =
        let rest : index.fewest told_by fs ≡ fewest db_view fs = fewest-same fs in
        λ i. if is_positive f then min (counts (holds f) i) (rest i) else rest i

    -- The steps of a selection by the index are those by the keys.
    pub select-steps : (fs : List Filter) → index.selection_steps told_by fs ≡ selection_steps db_view fs
    select-steps fs = ap (λ (n : ℕ). length fs * n) (fewest-same fs)
