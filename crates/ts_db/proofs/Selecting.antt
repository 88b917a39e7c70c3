-- The selected keys, found by scanning all keys in order.
use Rattle.std.proofs.Common.{◌≡◌, ◌<◌, Bool, true, false, ◌⊎◌, inl, inr, List, [], ◌∷◌, refl, sym, ap, subst, ◌∙◌, arith, eq-eqb, le-ltb, lt-ltb, ne_eqb}
use Rattle.std.proofs.lemmas.Bool.{cases_order, false≢true, and_parts}
use Rattle.std.specs.Cmp.Derive.{both_true}
use Rattle.std.specs.Cmp.Lexicographic.{slice_cmp}
use Rattle.std.specs.List.{All, AllByRecursion}
use Rattle.std.proofs.lemmas.List.Elements.{All-head, All-tail}
use Rattle.std.specs.List.Sorted.{IsStrictlySortedBy}
use Rattle.std.specs.Map.{keys_of}
use Rattle.std.proofs.Common.{Less}
use Rattle.std.specs.Ordering.{nat_cmp}
use Rattle.std.specs.Prelude.{⊤, Option, None, Some, option_map, if◌then◌else◌}
use Rattle.slab.specs.Slab as slab
use Rattle.ts_spec.specs.Filter.{Filter, all_hold}
use Rattle.ts_spec.specs.Key.{Key, is_before, before_trans}
use Rattle.ts_spec.specs.Keyed.{Keyed, Entry, get, is_below, put_in}
use Rattle.ts_spec.specs.StoredSeries.{StoredSeries}
use Rattle.ts_spec.specs.StoredQueries.{stored_selected_in, stored_selection}
use Rattle.ts_spec.proofs.Keys.{before-irrefl}
use Rattle.ts_sample.specs.declared.sample.Id.{Id}
use Rattle.ts_db.specs.declared.node.Node.{Node}
use Rattle.ts_db.specs.DbState.{AreIdsOf}
use Rattle.ts_db.specs.Store.{Nodes, Numbers, stored_node, stored_at_id, with_found, stored_by_key, id_for_key}

-- the order of a map's keys is that of the definitions
below-before : (j k : Key) → slice_cmp nat_cmp j k ≡ Less → is_before j k ≡ true
below-before [] [] h = absurd (cc h)
below-before [] (y ∷ k) h = refl
below-before (x ∷ j) [] h = absurd (cc h)
below-before (x ∷ j) (y ∷ k) h = go (cases_order x y) (below-before j k)
  where
    go : (x ≡ y) ⊎ ((x < y) ⊎ (y < x)) → (slice_cmp nat_cmp j k ≡ Less → is_before j k ≡ true) → is_before (x ∷ j) (y ∷ k) ≡ true
    go (inl e) rest =
        let tail : slice_cmp nat_cmp j k ≡ Less = rw (le-ltb x y (omega arith), eq-eqb x y e) at h in
        rw (le-ltb x y (omega arith), eq-eqb x y e) (rest tail)
    go (inr (inl l)) rest = rw (lt-ltb x y l) refl
    go (inr (inr g)) rest = absurd (cc (rw (le-ltb x y (omega arith), ne_eqb x y (λ d. absurd (omega arith))) at h))

-- a key before all entries goes to the front
front : {X : Type 0} (k : Key) (x : X) (es : List (Entry X)) → is_below k es ≡ true → put_in k x es ≡ record { key = k; value = x } ∷ es
front k x [] h = refl
front {X} k x (e ∷ es) h = go (and_parts (is_before k e.key) (is_below k es) h).0 (is_before e.key k) refl
  where
    go : is_before k e.key ≡ true → (b : Bool) → is_before e.key k ≡ b → put_in k x (e ∷ es) ≡ record { key = k; value = x } ∷ e ∷ es
    go first true later = absurd (false≢true (sym (before-irrefl k) ∙ before_trans k e.key k first later))
    go first false later = rw (later, first) refl

-- the stored data of ids, in the order of their keys
abbrev pub onto : Key → Option StoredSeries → List (Entry StoredSeries) → List (Entry StoredSeries)
onto k None es = es
onto k (Some d) es = record { key = k; value = d } ∷ es

abbrev pub listing : Nodes → Numbers → List (Entry StoredSeries)
listing nodes [] = []
listing nodes (e ∷ es) = onto e.0 (stored_at_id nodes e.1) (listing nodes es)

-- each id has a node
abbrev pub HaveNodes : Nodes → Numbers → Type 0
HaveNodes nodes [] = ⊤
HaveNodes nodes (e ∷ es) = ((n : Node) × (slab.get nodes e.1.0 ≡ Some n)) × HaveNodes nodes es

below-listing : (nodes : Nodes) (k : Key) (es : Numbers) → AllByRecursion (λ y. slice_cmp nat_cmp k y ≡ Less) (keys_of es) → is_below k (listing nodes es) ≡ true
below-listing nodes k [] h = refl
below-listing nodes k (e ∷ es) h = go (stored_at_id nodes e.1) (below-listing nodes k es h.1)
  where
    go : (o : Option StoredSeries) → is_below k (listing nodes es) ≡ true → is_below k (onto e.0 o (listing nodes es)) ≡ true
    go None rest = rest
    go (Some d) rest = both_true (below-before k e.0 h.0) rest

-- they are the entries of all that is stored
pub listing-entries : (nodes : Nodes) (es : Numbers) → IsStrictlySortedBy (slice_cmp nat_cmp) (keys_of es) → HaveNodes nodes es → (stored_by_key nodes es).entries ≡ listing nodes es
unfolding IsStrictlySortedBy
listing-entries nodes [] sorted there = refl
listing-entries nodes (e ∷ es) sorted there = go (stored_at_id nodes e.1) (ap (option_map (stored_node nodes)) there.0.1) (listing-entries nodes es sorted.1 there.1)
  where
    go : (o : Option StoredSeries) → o ≡ Some (stored_node nodes there.0.0) → (stored_by_key nodes es).entries ≡ listing nodes es
        → (with_found e.0 o (stored_by_key nodes es)).entries ≡ onto e.0 o (listing nodes es)
    go None is rest = absurd (cc is)
    go (Some d) is rest = ap (put_in e.0 d) rest ∙ front e.0 d (listing nodes es) (below-listing nodes e.0 es sorted.0)

-- whether the stored data passes filters
abbrev pub passes : List Filter → Option StoredSeries → Bool
passes fs None = false
passes fs (Some d) = all_hold fs d.labels

-- the ids whose labels pass all filters
abbrev pub chosen : Nodes → List Filter → Numbers → List Id
chosen nodes fs [] = []
chosen nodes fs (e ∷ es) = if passes fs (stored_at_id nodes e.1) then e.1 ∷ chosen nodes fs es else chosen nodes fs es

-- each id is that of its key
abbrev pub AreFound : Keyed Id → Numbers → Type 0
AreFound ids [] = ⊤
AreFound ids (e ∷ es) = (get e.0 ids ≡ Some e.1) × AreFound ids es

chosen-listing : (nodes : Nodes) (ids : Keyed Id) (fs : List Filter) (es : Numbers) → AreFound ids es → AreIdsOf ids (stored_selected_in fs (listing nodes es)) (chosen nodes fs es)
chosen-listing nodes ids fs [] found = tt
chosen-listing nodes ids fs (e ∷ es) found = go (stored_at_id nodes e.1) (chosen-listing nodes ids fs es found.1)
  where
    choose : (d : StoredSeries) (b : Bool) → AreIdsOf ids (stored_selected_in fs (listing nodes es)) (chosen nodes fs es)
        → AreIdsOf ids (if b then e.0 ∷ stored_selected_in fs (listing nodes es) else stored_selected_in fs (listing nodes es)) (if b then e.1 ∷ chosen nodes fs es else chosen nodes fs es)
    choose d true rest = (found.0, rest)
    choose d false rest = rest

    go : (o : Option StoredSeries) → AreIdsOf ids (stored_selected_in fs (listing nodes es)) (chosen nodes fs es)
        → AreIdsOf ids (stored_selected_in fs (onto e.0 o (listing nodes es))) (if passes fs o then e.1 ∷ chosen nodes fs es else chosen nodes fs es)
    go None rest = rest
    go (Some d) rest = choose d (all_hold fs d.labels) rest

-- The ids that are chosen on a walk over all keys are those of the keys that the filters select.
pub chosen-selected : (nodes : Nodes) (ids : Keyed Id) (fs : List Filter) (es : Numbers) → IsStrictlySortedBy (slice_cmp nat_cmp) (keys_of es) → HaveNodes nodes es → AreFound ids es
    → AreIdsOf ids (stored_selection (stored_by_key nodes es) fs) (chosen nodes fs es)
chosen-selected nodes ids fs es sorted there found =
    subst (λ (l : List (Entry StoredSeries)). AreIdsOf ids (stored_selected_in fs l) (chosen nodes fs es)) (sym (listing-entries nodes es sorted there)) (chosen-listing nodes ids fs es found)

-- of the ids that a map tells each is found, and has a node
pub all-found : (ids : Keyed Id) (all es : Numbers) → ((key : Key) → get key ids ≡ id_for_key key all) → All (λ e. id_for_key e.0 all ≡ Some e.1) es → AreFound ids es
all-found ids all [] same each = tt
all-found ids all (e ∷ es) same each =
    (same e.0 ∙ All-head (λ (d : Key × Id). id_for_key d.0 all ≡ Some d.1) e es each, all-found ids all es same (All-tail (λ (d : Key × Id). id_for_key d.0 all ≡ Some d.1) e es each))

pub all-there : (nodes : Nodes) (all es : Numbers) → ((key : Key) (id : Id) → id_for_key key all ≡ Some id → (n : Node) × (slab.get nodes id.0 ≡ Some n))
    → All (λ e. id_for_key e.0 all ≡ Some e.1) es → HaveNodes nodes es
all-there nodes all [] stored each = tt
all-there nodes all (e ∷ es) stored each =
    (stored e.0 e.1 (All-head (λ (d : Key × Id). id_for_key d.0 all ≡ Some d.1) e es each), all-there nodes all es stored (All-tail (λ (d : Key × Id). id_for_key d.0 all ≡ Some d.1) e es each))
