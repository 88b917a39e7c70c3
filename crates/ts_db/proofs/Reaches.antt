-- The reach and the chunks of each key's series after nodes change.
use Rattle.std.proofs.Common.{◌≡◌, ◌≢◌, ◌==◌, true, false, ℕ, List, [], refl, sym, ◌∙◌, ap, subst, ◌⊎◌, inl, inr}
use Rattle.std.specs.Prelude.{slice_index_or, Option, None, Some, IsSome, option_map}
use Rattle.std.specs.Option.{unwrap_or}
use Rattle.std.proofs.lemmas.Bool.Decides.{eqb_tells}
use Rattle.slab.specs.Slab as slab
use Rattle.slab.proofs.SlabLemmas.{Updates-with_value}
use Rattle.ts_spec.specs.Key.{Key}
use Rattle.ts_spec.specs.Keyed.{get, each}
use Rattle.ts_spec.specs.Sample.{Point}
use Rattle.ts_spec.proofs.Maps.{get-each}
use Rattle.ts_sample.specs.declared.sample.Id.{Id}
use Rattle.ts_series.specs.History.{History, reach}
use Rattle.ts_db.specs.declared.node.Node.{Node}
use Rattle.ts_db.specs.declared.store.Store.{Store}
use Rattle.ts_db.specs.DbState.{reach_at, chunk_samples_at}
use Rattle.ts_db.specs.Store.{stored_by_key, ids_of, of_each_node, node_reach, node_pieces, node_sizes, id_for_key, db_view_of, Nodes, Numbers, Holds}
use Rattle.ts_db.proofs.Collecting.{stored_by_key-slots, get-ids}

-- a function of the node of each id
module _ {X : Type 0} (tell : Option Node → X) where
  -- it stays where it stays of each id
  told-same : (old new : Nodes) (es : Numbers) → ((j : ℕ) → tell (slab.get new j) ≡ tell (slab.get old j)) → of_each_node tell new es ≡ of_each_node tell old es
  told-same old new es same = λ i. each (λ (key : Key) (id : Id). same id.0 i) (ids_of es)

  -- capacity alone changes nothing
  told-slots : (old new : Nodes) (es : Numbers) → new.slots ≡ old.slots → of_each_node tell new es ≡ of_each_node tell old es
  told-slots old new es same = told-same old new es (λ j. ap (λ (slots : List (Option Node)). tell (slice_index_or slots j None)) same)

  -- nor does a node of which the same is told
  told-turned : (old : Nodes) (es : Numbers) (id : ℕ) (n changed : Node) → slab.get old id ≡ Some n → tell (Some changed) ≡ tell (Some n) → of_each_node tell (slab.with_value old id changed) es ≡ of_each_node tell old es
  told-turned old es id n changed got same = told-same old (slab.with_value old id changed) es (λ j. pick j (eqb_tells j id))
    where
      change : slab.Updates old (slab.with_value old id changed) id (Some changed)
      change = Updates-with_value old id changed (subst (λ (o : Option Node). IsSome o) (sym got) refl)

      pick : (j : ℕ) → (((j == id) ≡ true) × (j ≡ id)) ⊎ (((j == id) ≡ false) × (j ≢ id)) → tell (slab.get (slab.with_value old id changed) j) ≡ tell (slab.get old j)
      pick j (inl e) =
          ap (λ (i : ℕ). tell (slab.get (slab.with_value old id changed) i)) e.1
          ∙ ap tell change.changed ∙ same
          ∙ sym (ap tell got) ∙ sym (ap (λ (i : ℕ). tell (slab.get old i)) e.1)
      pick j (inr e) = ap tell (change.others j e.1)

-- capacity changes nothing that contracts see
pub db_view-slots : (s : Store) (new : Nodes) → new.slots ≡ s.nodes.slots → db_view_of (record s { nodes = new }) ≡ db_view_of s
db_view-slots s new same =
    let kept : stored_by_key new s.keys.entries ≡ stored_by_key s.nodes s.keys.entries = stored_by_key-slots s.nodes new s.keys.entries same in
    let far : of_each_node node_reach new s.keys.entries ≡ of_each_node node_reach s.nodes s.keys.entries = told-slots node_reach s.nodes new s.keys.entries same in
    let parts : of_each_node node_pieces new s.keys.entries ≡ of_each_node node_pieces s.nodes s.keys.entries = told-slots node_pieces s.nodes new s.keys.entries same in
    let bounds : of_each_node node_sizes new s.keys.entries ≡ of_each_node node_sizes s.nodes s.keys.entries = told-slots node_sizes s.nodes new s.keys.entries same in
    λ i. record (db_view_of s) { keys = kept i; reaches = far i; pieces = parts i; sizes = bounds i }

-- nor does a node that keeps its series, where the same is stored
pub db_view-turned : (s : Store) (id : ℕ) (n changed : Node) → slab.get s.nodes id ≡ Some n → changed.series ≡ n.series
    → stored_by_key (slab.with_value s.nodes id changed) s.keys.entries ≡ stored_by_key s.nodes s.keys.entries → db_view_of (record s { nodes = slab.with_value s.nodes id changed }) ≡ db_view_of s
db_view-turned s id n changed got same kept =
    let new : Nodes = slab.with_value s.nodes id changed in
    let far : of_each_node node_reach new s.keys.entries ≡ of_each_node node_reach s.nodes s.keys.entries =
    told-turned node_reach s.nodes s.keys.entries id n changed got (ap (λ (h : History). reach h) same) in
    let parts : of_each_node node_pieces new s.keys.entries ≡ of_each_node node_pieces s.nodes s.keys.entries =
    told-turned node_pieces s.nodes s.keys.entries id n changed got (ap (λ (h : History). h.held.pieces) same) in
    let bounds : of_each_node node_sizes new s.keys.entries ≡ of_each_node node_sizes s.nodes s.keys.entries =
    told-turned node_sizes s.nodes s.keys.entries id n changed got (ap (λ (h : History). h.held.limits) same) in
    λ i. record (db_view_of s) { keys = kept i; reaches = far i; pieces = parts i; sizes = bounds i }

-- the reach of a key is that of its id
pub reach-number : (nodes : Nodes) (es : Numbers) (key : Key) (id : Id) → id_for_key key es ≡ Some id → unwrap_or (get key (of_each_node node_reach nodes es)) 0 ≡ node_reach (slab.get nodes id.0)
reach-number nodes es key id is =
    ap (λ (o : Option ℕ). unwrap_or o 0)
    (get-each (λ (key : Key) (id : Id). node_reach (slab.get nodes id.0)) key (ids_of es)
    ∙ ap (option_map (λ (id : Id). node_reach (slab.get nodes id.0))) (get-ids key es ∙ is))

-- and of its series
pub reach-held : (s : Store) (key : Key) (id : Id) (n : Node) → Holds s key id n → reach_at (db_view_of s) key ≡ reach n.series
reach-held s key id n holds = reach-number s.nodes s.keys.entries key id holds.number ∙ ap node_reach holds.node

-- so are its chunks
pub pieces-held : (s : Store) (key : Key) (id : Id) (n : Node) → Holds s key id n → chunk_samples_at (db_view_of s) key ≡ n.series.held.pieces
pieces-held s key id n holds =
    ap (λ (o : Option (List (List Point))). unwrap_or o [])
    (get-each (λ (key : Key) (id : Id). node_pieces (slab.get s.nodes id.0)) key (ids_of s.keys.entries)
    ∙ ap (option_map (λ (id : Id). node_pieces (slab.get s.nodes id.0))) (get-ids key s.keys.entries ∙ holds.number))
    ∙ ap node_pieces holds.node
