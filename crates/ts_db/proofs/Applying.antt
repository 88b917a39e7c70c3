-- How a change of one node changes the store.
use Rattle.std.proofs.Common.{◌≡◌, ◌≤◌, cond, List, length, refl, sym, ◌∙◌, ap, subst, arith}
use Rattle.std.specs.Prelude.{Vec, Option, None, Some, is_some, Result, Ok, Err, IfOk, OnErr}
use Rattle.std.specs.declared.alloc.Global.{Global}
use Rattle.std.specs.declared.alloc.AllocError.{AllocError}
use Rattle.std.specs.Option.{unwrap_or}
use Rattle.std.proofs.lemmas.List.Sums.{sum_by-set}
use Rattle.slab.specs.Slab as slab
use Rattle.slab.proofs.SlabLemmas.{ContainsKey-within, Updates-with_value}
use Rattle.ts_spec.specs.Key.{Key}
use Rattle.ts_spec.specs.Keyed.{get, with_key}
use Rattle.ts_spec.specs.State.{Label}
use Rattle.ts_spec.specs.StoredSeries.{StoredSeries, StoredKeys}
use Rattle.ts_spec.proofs.Tidy.{some-same}
use Rattle.ts_sample.specs.declared.sample.Id.{Id}
use Rattle.ts_series.specs.History.{History, list_of}
use Rattle.ts_series.specs.Plan.{Plan, after, IsFor}
use Rattle.ts_rules.specs.declared.rule.Rule.{Rule}
use Rattle.ts_db.specs.declared.node.Node.{Node}
use Rattle.ts_db.specs.declared.store.Store.{Store}
use Rattle.ts_db.specs.Store.{key_in, stored_node, stored_by_key, db_view_of, contents_of, Nodes, AreLive, HasLiveLinks, HaveGrids, IsNode, IsStore, IsInOrder, Holds}
use Rattle.ts_db.specs.Answering.{node_after, IsReady, IsApplied, IsElsewhere}
use Rattle.ts_db.specs.NodeChanges.{HasNodeWhere, IsNodeChanged, IsAfter}
use Rattle.ts_db.proofs.Collecting.{same-names, stored_by_key-written}
use Rattle.ts_db.proofs.Indexing.{contains}
use Rattle.ts_db.proofs.Storing as storing
use Rattle.ts_db.proofs.Storing.{names-written, store-written}

-- what a key has that the store holds
pub there : (s : Store) (store : IsInOrder s) (key : Key) (id : Id) (n : Node) → Holds s key id n → get key (db_view_of s).keys ≡ Some (stored_node s.nodes n)
there s store key id n holds = storing.there s.limits s.nodes s.keys.entries store key id n holds.number holds.node

-- ---- another node with the same id and key

module _ (s : Store) (store : IsInOrder s) (key : Key) (id : Id) (n changed : Node) (holds : Holds s key id n) (name : changed.key ≡ n.key) where
  change : slab.Updates s.nodes (slab.with_value s.nodes id.0 changed) id.0 (Some changed)
  change = Updates-with_value s.nodes id.0 changed (contains s.nodes id n holds.node)

  as_many : slab.slab_len (slab.with_value s.nodes id.0 changed) ≡ slab.slab_len s.nodes
  as_many =
      let one = λ (o : Option Node). cond (is_some o) 1 0 in
      let counts = sum_by-set one s.nodes.slots id.0 (Some changed) None (ContainsKey-within s.nodes id.0 (contains s.nodes id n holds.node)) in
      let was : one (slab.get s.nodes id.0) ≡ 1 = ap one holds.node in
      omega (arith, counts, was)

  -- the store stays in order
  pub store-changed : HasLiveLinks s.nodes changed → IsNode s.limits changed → IsStore s.limits (slab.with_value s.nodes id.0 changed) s.keys.entries
  store-changed links sound = store-written s.limits s.nodes s.keys.entries store (slab.with_value s.nodes id.0 changed) key id n changed holds.number holds.node change as_many name links sound

  -- and only the stored data of its key changes
  pub keys-changed : HasLiveLinks s.nodes changed → stored_by_key (slab.with_value s.nodes id.0 changed) s.keys.entries ≡ with_key key (stored_node s.nodes changed) (stored_by_key s.nodes s.keys.entries)
  keys-changed links =
      stored_by_key-written s.nodes (slab.with_value s.nodes id.0 changed) s.keys.entries key id changed (storing.apart s.limits s.nodes s.keys.entries store) holds.number change
      (storing.others-written s.limits s.nodes s.keys.entries store (slab.with_value s.nodes id.0 changed) id.0 n changed holds.node change name)
      ∙ ap (λ (d : StoredSeries). with_key key d (stored_by_key s.nodes s.keys.entries))
      (same-names s.nodes (key_in (slab.with_value s.nodes id.0 changed)) (key_in s.nodes) changed links
      (λ j x. names-written s.nodes (slab.with_value s.nodes id.0 changed) id.0 n changed holds.node change name j))

  -- the other nodes stay
  pub elsewhere-changed : IsElsewhere s (record s { nodes = slab.with_value s.nodes id.0 changed }) id
  elsewhere-changed = record {
    limits = refl;
    entries = refl;
    others = change.others;
    names = names-written s.nodes (slab.with_value s.nodes id.0 changed) id.0 n changed holds.node change name;
  }

-- ---- a node that changed by a relation, and kept its key

pub elsewhere-turned : (s : Store) (store : IsInOrder s) (id : Id) (new : Nodes) {by : (was now : Node) → Type 0} (t : IsNodeChanged s.nodes new id by) → t.now.key ≡ t.was.key → IsElsewhere s (record s { nodes = new }) id
elsewhere-turned s store id new t name =
    subst (λ (nodes : Nodes). IsElsewhere s (record s { nodes = nodes }) id) (sym t.turned)
    (elsewhere-changed s store t.was.key id t.was t.now (record { number = store.owned id.0 t.was t.there; node = t.there }) name)

-- ---- a node after a plan of its series

-- a plan was made for the node of its id
pub has-such : (s : Store) (id : Id) (plan : Plan) (labels : Option (List Label)) (rules : Option (Vec Rule Global)) → IsReady s id plan labels rules → HasNodeWhere s.nodes id (λ n. IsFor plan n.series)
has-such s id plan labels rules planned = record { node = planned.node; there = planned.holds.node; holds = planned.ready }

module _ (s : Store) (store : IsInOrder s) (id : Id) (plan : Plan) (labels : Option (List Label)) (rules : Option (Vec Rule Global)) (planned : IsReady s id plan labels rules)
    (new : Nodes) (t : IsNodeChanged s.nodes new id (IsAfter plan labels rules)) where
  -- the node before, and after it
  abbrev n : Node
  n = t.was

  abbrev changed : Node
  changed = record n { series = t.now.series; labels = unwrap_or labels n.labels; rules = unwrap_or rules n.rules }

  got : slab.get s.nodes id.0 ≡ Some n
  got = t.there

  turned : slab.with_value s.nodes id.0 changed ≡ new
  turned = ap (slab.with_value s.nodes id.0) (sym t.so.rest) ∙ sym t.turned

  same : stored_node s.nodes changed ≡ stored_node s.nodes (node_after plan labels rules n)
  same = ap (λ (h : History). stored_node s.nodes (record n { series = h; labels = unwrap_or labels n.labels; rules = unwrap_or rules n.rules })) t.so.done

  it : planned.node ≡ n
  it = some-same planned.node n (sym planned.holds.node ∙ got)

  holds : Holds s planned.key id n
  holds = record { number = planned.holds.number; node = got }

  in_order : IsNode s.limits changed
  in_order = record {
    kept = t.so.kept;
    within = subst (λ (h : History). length (list_of h) ≤ s.limits.samples) (sym t.so.done) (subst (λ (g : Node). length (list_of (after plan g.series)) ≤ s.limits.samples) it planned.within);
    born = subst (λ (h : History). h.born ≤ s.limits.born) (sym t.so.done) (store.each id.0 n got).born;
    labels = subst (λ (g : Node). length (unwrap_or labels g.labels) ≤ s.limits.labels) it planned.few;
    grids = subst (λ (g : Node). HaveGrids (unwrap_or rules g.rules).items) it planned.grids;
  }

  links : HasLiveLinks s.nodes changed
  links = record { rules = subst (λ (g : Node). AreLive s.nodes (unwrap_or rules g.rules).items) it planned.live; source = (store.live id.0 n got).source }

  -- the store stays in order
  pub store-applied : IsStore s.limits new s.keys.entries
  store-applied = subst (λ (nodes : Nodes). IsStore s.limits nodes s.keys.entries) turned (store-changed s store planned.key id n changed holds refl links in_order)

  -- and the stored data of its key
  pub applied : IsApplied s id plan labels rules (record s { nodes = new })
  applied key g held =
      ap (λ (nodes : Nodes). record (contents_of s) { keys = stored_by_key nodes s.keys.entries }) (sym turned)
      ∙ ap (λ (m : StoredKeys). record (contents_of s) { keys = m })
      (keys-changed s store key id n changed (record { number = held.number; node = got }) refl links
      ∙ ap (λ (d : StoredSeries). with_key key d (stored_by_key s.nodes s.keys.entries)) (same ∙ ap (λ (x : Node). stored_node s.nodes (node_after plan labels rules x)) (some-same n g (sym got ∙ held.node))))

  -- the other nodes stay
  pub elsewhere : IsElsewhere s (record s { nodes = new }) id
  elsewhere = elsewhere-turned s store id new t (ap (λ (x : Node). x.key) t.so.rest)

-- with new labels, or after memory ran out

module _ (s : Store) (store : IsInOrder s) (id : Id) (plan : Plan) (labels : Option (List Label)) (planned : IsReady s id plan labels None) (new : Nodes) where
  pub store-altered : (r : Result (Unit {0}) AllocError) → IfOk r (λ x. IsNodeChanged s.nodes new id (IsAfter plan labels None)) → OnErr r (new ≡ s.nodes) → IsStore s.limits new s.keys.entries
  store-altered (Ok x) t is = store-applied s store id plan labels None planned new t
  store-altered (Err e) t is = subst (λ (nodes : Nodes). IsStore s.limits nodes s.keys.entries) (sym is) store

  pub altered : (r : Result (Unit {0}) AllocError) → IfOk r (λ x. IsNodeChanged s.nodes new id (IsAfter plan labels None)) → IfOk r (λ x. IsApplied s id plan labels None (record s { nodes = new }))
  altered (Ok x) t = applied s store id plan labels None planned new t
  altered (Err e) t = tt

  pub unaltered : (r : Result (Unit {0}) AllocError) → OnErr r (new ≡ s.nodes) → OnErr r (record s { nodes = new } ≡ s)
  unaltered (Ok x) is = tt
  unaltered (Err e) is = ap (λ (nodes : Nodes). record s { nodes = nodes }) is
