-- A store after keys that are to be deleted have lost their labels.
use Rattle.std.proofs.Common.{◌≡◌, ◌≢◌, ℕ, zero, suc, ◌<◌, ◌==◌, ◌||◌, Bool, true, false, List, [], ◌∷◌, ◌++◌, length, get_or, refl, sym, ◌∙◌, ap, subst, arith, eqb-true, eq-eqb, le-ltb}
use Rattle.std.specs.Prelude.{Option, None, Some, if◌then◌else◌, Ok}
use Rattle.std.specs.List.{All, list_any}
use Rattle.std.proofs.lemmas.Bool.{false≢true}
use Rattle.std.proofs.lemmas.List.Elements.{All-append}
use Rattle.slab.specs.Slab as slab
use Rattle.slab.proofs.SlabLemmas.{Updates-with_value}
use Rattle.ts_spec.specs.Key.{Key, same}
use Rattle.ts_spec.specs.Keyed.{with_key}
use Rattle.ts_spec.specs.Command.{Change}
use Rattle.ts_spec.specs.StoredSeries.{StoredSeries, StoredKeys}
use Rattle.ts_spec.specs.StoredStep.{stored_drop_keys}
use Rattle.ts_spec.proofs.Keys.{same-refl}
use Rattle.ts_sample.specs.declared.sample.Id.{Id}
use Rattle.ts_index.specs.Index.{Labelled, labels_of}
use Rattle.ts_index.specs.Numbers.{has_id}
use Rattle.ts_index.specs.Clearing.{none_left}
use Rattle.ts_index.proofs.LosingLemmas.{entries-next}
use Rattle.ts_series.specs.Plan.{Plan, alters, options_with}
use Rattle.ts_db.specs.declared.node.Node.{Node}
use Rattle.ts_db.specs.declared.store.Store.{Store}
use Rattle.ts_db.specs.Answering.{node_after}
use Rattle.ts_db.specs.Dropping.{IsIdOf, unlabelled, unlabelled_at, all_unlabelled}
use Rattle.ts_db.specs.Indexed.{IsIndexed}
use Rattle.ts_db.specs.Store.{Nodes, Numbers, id_for_key, stored_node, db_view_of, contents_of, HasLiveLinks, IsNode, IsInOrder, IsDb, Holds}
use Rattle.ts_db.proofs.Applying.{there, store-changed, keys-changed}
use Rattle.ts_db.proofs.Changing.{alter-answers}
use Rattle.ts_db.proofs.Indexing.{node_labels, contains}
use Rattle.ts_db.proofs.Laws.{alter-law}
use Rattle.ts_db.proofs.Unlabelled.{stored_unlabelled, drops-same}

-- ---- the label index

cleared-at : (x i : ℕ) (nodes : Nodes) (o : Option Node) → slab.get nodes x ≡ o
    → node_labels (slab.get (unlabelled_at x nodes o) i) ≡ (if i == x then none_left (node_labels (slab.get nodes i)) else node_labels (slab.get nodes i))
cleared-at x i nodes None at = by (i == x) refl
  where
    by : (b : Bool) → (i == x) ≡ b → node_labels (slab.get nodes i) ≡ (if b then none_left (node_labels (slab.get nodes i)) else node_labels (slab.get nodes i))
    by true e =
        let missing : node_labels (slab.get nodes i) ≡ None = ap node_labels (ap (slab.get nodes) (eqb-true i x e) ∙ at) in
        missing ∙ sym (ap none_left missing)
    by false e = refl
cleared-at x i nodes (Some n) at = by (i == x) refl
  where
    change : slab.Updates nodes (slab.with_value nodes x (unlabelled n)) x (Some (unlabelled n))
    change = Updates-with_value nodes x (unlabelled n) (contains nodes (record { 0 = x }) n at)

    by : (b : Bool) → (i == x) ≡ b → node_labels (slab.get (slab.with_value nodes x (unlabelled n)) i) ≡ (if b then none_left (node_labels (slab.get nodes i)) else node_labels (slab.get nodes i))
    by true e =
        ap node_labels (ap (slab.get (slab.with_value nodes x (unlabelled n))) (eqb-true i x e) ∙ change.changed)
        ∙ sym (ap (λ o. none_left (node_labels o)) (ap (slab.get nodes) (eqb-true i x e) ∙ at))
    by false e = ap node_labels (change.others i (λ same. absurd (false≢true (sym e ∙ eq-eqb i x same))))

labels-cleared : (ids : List Id) (nodes : Nodes) (i : ℕ)
    → (if has_id i ids then none_left (node_labels (slab.get nodes i)) else node_labels (slab.get nodes i)) ≡ node_labels (slab.get (all_unlabelled ids nodes) i)
labels-cleared [] nodes i = refl
labels-cleared (x ∷ ids) nodes i =
    let one = unlabelled_at x.0 nodes (slab.get nodes x.0) in
    sym (entries-next i x ids (node_labels (slab.get nodes i)) (node_labels (slab.get one i))
    (if has_id i (x ∷ ids) then none_left (node_labels (slab.get nodes i)) else node_labels (slab.get nodes i)) (cleared-at x.0 i nodes (slab.get nodes x.0) refl) refl)
    ∙ labels-cleared ids one i

-- the index again has the labels of each node
pub indexed-cleared : (ids : List Id) (nodes new : Nodes) (index fresh : Labelled) → new ≡ all_unlabelled ids nodes
    → ((i : ℕ) → labels_of i fresh ≡ (if has_id i ids then none_left (labels_of i index) else labels_of i index)) → IsIndexed nodes index → IsIndexed new fresh
indexed-cleared ids nodes new index fresh are is indexed i =
    is i ∙ ap (λ o. if has_id i ids then none_left o else o) (indexed i) ∙ labels-cleared ids nodes i ∙ sym (ap (λ (s : Nodes). node_labels (slab.get s i)) are)

-- ---- one key

-- no labels in place of all
abbrev no_labels : Change
no_labels = record { retention = None; chunk_size = None; policy = None; ignore = None; labels = Some [] }

module _ (s : Store) (db : IsDb s) (key : Key) (id : Id) (n : Node) (holds : Holds s key id n) where
  -- the store after the node has lost its labels
  abbrev bare : Store
  bare = record s { nodes = slab.with_value s.nodes id.0 (unlabelled n) }

  links : HasLiveLinks s.nodes (unlabelled n)
  links = let l = db.store.live id.0 n holds.node in record { rules = l.rules; source = l.source }

  sound : IsNode s.limits (unlabelled n)
  sound = let e = db.store.each id.0 n holds.node in record { kept = e.kept; within = e.within; born = e.born; labels = omega arith; grids = e.grids }

  order : IsInOrder bare
  order = store-changed s db.store key id n (unlabelled n) holds refl links sound

  keys-are : (db_view_of bare).keys ≡ with_key key (stored_unlabelled (stored_node s.nodes n)) (db_view_of s).keys
  keys-are = keys-changed s db.store key id n (unlabelled n) holds refl links

  -- it is what TS.ALTER with no labels leaves
  abbrev plan : Plan
  plan = alters (options_with None None None None n.series.options)

  past : stored_node s.nodes (node_after plan (Some []) None n) ≡ stored_unlabelled (stored_node s.nodes n)
  past = let past_edge = (db.store.each id.0 n holds.node).kept.past_edge in λ i. record (stored_unlabelled (stored_node s.nodes n)) { list = past_edge i }

  db-after : IsDb bare
  db-after = (alter-law s bare refl db order key no_labels (Ok tt) (
    alter-answers s db.store key id n holds no_labels plan (contents_of bare) (le-ltb s.limits.labels 0 (omega arith)) refl
        (ap (λ (m : StoredKeys). record (contents_of s) { keys = m }) (keys-are ∙ ap (λ (d : StoredSeries). with_key key d (db_view_of s).keys) (sym past))),
    refl,
  )).0

  drops-after : (ks : List Key) → list_any (λ k. same k key) ks ≡ true → stored_drop_keys (db_view_of bare).keys 0 ks ≡ stored_drop_keys (db_view_of s).keys 0 ks
  drops-after ks among = ap (λ (m : StoredKeys). stored_drop_keys m 0 ks) keys-are ∙ drops-same key ks (stored_node s.nodes n) (db_view_of s).keys (there s db.store key id n holds) 0 among

-- ---- all keys

-- The store is still a database, and deleting the keys comes to the same.
pub record IsCleared (ks : List Key) (s new : Store) : Type 0 where
  pub db : IsDb new
  pub limits : new.limits ≡ s.limits
  pub same : stored_drop_keys (db_view_of new).keys 0 ks ≡ stored_drop_keys (db_view_of s).keys 0 ks

pub all-cleared : (ks : List Key) (ids : List Id) (s : Store) → IsDb s → All (IsIdOf ks s.keys.entries) ids → IsCleared ks s (record s { nodes = all_unlabelled ids s.nodes })
all-cleared ks [] s db known = record { db = db; limits = refl; same = refl }
all-cleared ks (x ∷ ids) s db known =
    let own : IsIdOf ks s.keys.entries x = known 0 x (omega arith) in
    let of = db.store.stored own.key x own.is in
    let holds : Holds s own.key x of.0 = record { number = own.is; node = of.1 } in
    let rest = all-cleared ks ids (bare s db own.key x of.0 holds) (db-after s db own.key x of.0 holds) (λ k d l. known (suc k) d (omega arith)) in
    subst (λ (nodes : Nodes). IsCleared ks s (record s { nodes = all_unlabelled ids nodes })) (ap (unlabelled_at x.0 s.nodes) (sym of.1))
    (record { db = rest.db; limits = rest.limits; same = rest.same ∙ drops-after s db own.key x of.0 holds ks own.among })

-- ---- the ids of the keys

-- a key at an index is one of the keys
pub any-at : (ks : List Key) (p : ℕ) (k : Key) → p < length ks → k ≡ get_or ks p k → list_any (λ j. same j k) ks ≡ true
any-at [] p k l e = absurd (omega arith)
any-at (x ∷ ks) zero k l e = ap (λ b. b || list_any (λ j. same j k) ks) (ap (λ j. same j k) (sym e) ∙ same-refl k)
any-at (x ∷ ks) (suc p) k l e = right (same x k) (any-at ks p k (omega arith) e)
  where
    right : (b : Bool) → list_any (λ j. same j k) ks ≡ true → (b || list_any (λ j. same j k) ks) ≡ true
    right true h = refl
    right false h = h

-- so it is with nodes that are these
pub cleared-nodes : (ks : List Key) (ids : List Id) (s : Store) → IsDb s → All (IsIdOf ks s.keys.entries) ids → (nodes : Nodes) → nodes ≡ all_unlabelled ids s.nodes → IsCleared ks s (record s { nodes = nodes })
cleared-nodes ks ids s db known nodes is = subst (λ (n : Nodes). IsCleared ks s (record s { nodes = n })) (sym is) (all-cleared ks ids s db known)

all-one : {X : Type 0} (P : X → Type 0) (x : X) → P x → All P (x ∷ [])
all-one P x h zero d l = h
all-one P x h (suc k) d l = absurd (omega arith)

-- with the id of one more key
pub ids-more : (ks : List Key) (es : Numbers) (key : Key) (id : Id) (was now : List Id) → list_any (λ k. same k key) ks ≡ true → id_for_key key es ≡ Some id → All (IsIdOf ks es) was → now ≡ was ++ id ∷ []
    → All (IsIdOf ks es) now
ids-more ks es key id was now among is known more =
    subst (λ (ids : List Id). All (IsIdOf ks es) ids) (sym more) (All-append (IsIdOf ks es) was (id ∷ []) known (all-one (IsIdOf ks es) id (record { key = key; among = among; is = is })))
