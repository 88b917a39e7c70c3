-- Lookups by id, and results of queries.
use Rattle.std.proofs.Common.{◌≡◌, true, false, refl, sym, ◌∙◌, ap}
use Rattle.std.specs.Prelude.{Option, None, Some, is_some, Result, Err}
use Rattle.slab.specs.Slab as slab
use Rattle.ts_spec.specs.Key.{Key}
use Rattle.ts_spec.specs.Keyed.{get}
use Rattle.ts_spec.specs.StoredQueries.{stored_labels_at}
use Rattle.ts_spec.specs.StoredStep.{list_at}
use Rattle.ts_sample.specs.declared.sample.Id.{Id}
use Rattle.ts_db.specs.declared.fault.DbFault.{DbFault}
use Rattle.ts_db.specs.declared.fault.DbFault.TheVariants.{NoKey}
use Rattle.ts_db.specs.declared.node.Node.{Node}
use Rattle.ts_db.specs.declared.store.Store.{Store}
use Rattle.ts_db.specs.DbState.{DbState, DbView, Represents, Finds, IsLive}
use Rattle.ts_db.specs.Store.{db_view_of, id_for_key, IsInOrder, Holds, Shows}
use Rattle.ts_db.proofs.Applying.{there}
use Rattle.ts_db.proofs.Collecting.{get-ids}
use Rattle.ts_db.proofs.Laws.{there-law}
use Rattle.ts_db.proofs.Reaches.{reach-held, pieces-held}
use Rattle.ts_db.proofs.Storing.{missing}

-- ---- by ids

-- the node of the id of a key
pub numbered-holds : (s : Store) (key : Key) (id : Id) (n : Node) → get key (db_view_of s).ids ≡ Some id → slab.get s.nodes id.0 ≡ Some n → Holds s key id n
numbered-holds s key id n is at = record { number = sym (get-ids key s.keys.entries) ∙ is; node = at }

-- an id of a key has a node
pub node-live : (s : Store) (store : IsInOrder s) (id : Id) → IsLive (db_view_of s).ids id → (n : Node) × (slab.get s.nodes id.0 ≡ Some n)
node-live s store id live = store.stored live.key id (sym (get-ids live.key s.keys.entries) ∙ live.is)

-- contracts see of the key what the node has
pub node-shows : (s : Store) (store : IsInOrder s) (key : Key) (id : Id) (n : Node) → Holds s key id n → Shows (db_view_of s) key n
node-shows s store key id n holds = let at = there s store key id n holds in record {
  name = store.named key id n holds.number holds.node;
  labels = ap stored_labels_at at;
  list = ap list_at at;
  reached = reach-held s key id n holds;
  pieces = pieces-held s key id n holds;
}

-- a key has an id exactly if it has stored data
pub numbered-there : (s : Store) (store : IsInOrder s) (key : Key) → is_some (id_for_key key s.keys.entries) ≡ is_some (get key (db_view_of s).keys)
numbered-there s store key = go (id_for_key key s.keys.entries) refl
  where
    go : (o : Option Id) → id_for_key key s.keys.entries ≡ o → is_some o ≡ is_some (get key (db_view_of s).keys)
    go None is = ap is_some (sym (missing s.limits s.nodes s.keys.entries store key is))
    go (Some id) is = let of = store.stored key id is in ap is_some (sym (there s store key id of.0 (record { number = is; node = of.1 })))

-- ---- by keys, in each state that is represented

module _ {T : Type 0} (db_view : DbView) (key : Key) (what : DbState → T → Type 0) where
  -- a key that is missing
  pub finds-no-key : false ≡ is_some (get key db_view.keys) → (held : DbState) → Represents db_view held → Finds (get key held.state) (what held) (Err NoKey)
  finds-no-key is held st = go (get key held.state) (there-law db_view key false is held st)
    where
      go : {X : Type 0} (o : Option X) → false ≡ is_some o → Finds o (what held) (Err NoKey)
      go None gone = refl
      go (Some d) gone = absurd (cc gone)

  -- a key that is there finds what does not depend on what it has
  pub finds-there : (r : Result T DbFault) → true ≡ is_some (get key db_view.keys) → ((held : DbState) → Represents db_view held → Finds (Some (tt {0})) (what held) r)
      → (held : DbState) → Represents db_view held → Finds (get key held.state) (what held) r
  finds-there r is found held st = go (get key held.state) (there-law db_view key true is held st)
    where
      go : {X : Type 0} (o : Option X) → true ≡ is_some o → Finds o (what held) r
      go None gone = absurd (cc gone)
      go (Some d) here = found held st
