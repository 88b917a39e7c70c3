-- A node after an append inside the open bucket of each rule.
use Rattle.std.proofs.Common.{◌≡◌, ◌≤◌, length, refl, sym, ◌∙◌, ap, subst}
use Rattle.std.specs.Prelude.{None, Some, option_map}
use Rattle.slab.specs.Slab as slab
use Rattle.ts_spec.specs.Sample.{Point}
use Rattle.ts_spec.specs.Key.{Key}
use Rattle.ts_spec.specs.Keyed.{with_key}
use Rattle.ts_spec.specs.StoredSeries.{StoredSeries}
use Rattle.ts_spec.proofs.Tidy.{some-same}
use Rattle.ts_sample.specs.declared.sample.Id.{Id}
use Rattle.ts_series.specs.History.{History, list_of}
use Rattle.ts_series.specs.Plan.{Plan, after}
use Rattle.ts_db.specs.declared.node.Node.{Node}
use Rattle.ts_db.specs.declared.store.Store.{Store}
use Rattle.ts_db.specs.Answering.{IsReady}
use Rattle.ts_db.specs.OpenAppend.{counted_once_more, stored_open_append}
use Rattle.ts_db.specs.NodeChanges.{IsNodeChanged, IsOpenAppended}
use Rattle.ts_db.specs.Store.{stored_series, key_in, stored_node, stored_by_key, Nodes, HasLiveLinks, IsNode, IsStore, IsInOrder, Holds}
use Rattle.ts_db.proofs.Applying.{store-changed, keys-changed}
use Rattle.ts_db.proofs.StayingOpen.{counted_once_more-grids}
use Rattle.ts_db.proofs.Working.{changed-rules, changed-live}

module _ (s : Store) (store : IsInOrder s) (id : Id) (plan : Plan) (planned : IsReady s id plan None None) (p : Point) (new : Nodes) (t : IsNodeChanged s.nodes new id (IsOpenAppended plan p)) where
  -- the node before, and after it
  abbrev n : Node
  n = t.was

  abbrev changed : Node
  changed = record n { series = t.now.series; rules = t.now.rules }

  got : slab.get s.nodes id.0 ≡ Some n
  got = t.there

  turned : slab.with_value s.nodes id.0 changed ≡ new
  turned = ap (slab.with_value s.nodes id.0) (sym t.so.rest) ∙ sym t.turned

  it : planned.node ≡ n
  it = some-same planned.node n (sym planned.holds.node ∙ got)

  links : HasLiveLinks s.nodes changed
  links = record { rules = changed-live s (counted_once_more p) n.rules.items t.now.rules.items t.so.rules (store.live id.0 n got).rules; source = (store.live id.0 n got).source }

  in_order : IsNode s.limits changed
  in_order = record {
    kept = t.so.kept;
    within = subst (λ (h : History). length (list_of h) ≤ s.limits.samples) (sym t.so.done) (subst (λ (g : Node). length (list_of (after plan g.series)) ≤ s.limits.samples) it planned.within);
    born = subst (λ (h : History). h.born ≤ s.limits.born) (sym t.so.done) (store.each id.0 n got).born;
    labels = (store.each id.0 n got).labels;
    grids = counted_once_more-grids p n.rules.items t.now.rules.items t.so.rules (store.each id.0 n got).grids;
  }

  -- the store stays in order
  pub store-counted_once_more : IsStore s.limits new s.keys.entries
  store-counted_once_more =
      subst (λ (nodes : Nodes). IsStore s.limits nodes s.keys.entries) turned (store-changed s store planned.key id n changed (record { number = planned.holds.number; node = got }) refl links in_order)

  same : stored_node s.nodes changed ≡ stored_open_append s.nodes plan p n
  same =
      let all = changed-rules (key_in s.nodes) (counted_once_more p) n.rules.items t.now.rules.items t.so.rules in
      λ i. record (stored_series n.labels (t.so.done i)) { rules = all i; source = option_map (key_in s.nodes) n.source }

  -- and the stored data of its key
  pub keys-counted_once_more : (key : Key) (g : Node) → Holds s key id g → stored_by_key new s.keys.entries ≡ with_key key (stored_open_append s.nodes plan p g) (stored_by_key s.nodes s.keys.entries)
  keys-counted_once_more key g held =
      ap (λ (nodes : Nodes). stored_by_key nodes s.keys.entries) (sym turned)
      ∙ keys-changed s store key id n changed (record { number = held.number; node = got }) refl links
      ∙ ap (λ (d : StoredSeries). with_key key d (stored_by_key s.nodes s.keys.entries)) (same ∙ ap (stored_open_append s.nodes plan p) (some-same n g (sym got ∙ held.node)))
