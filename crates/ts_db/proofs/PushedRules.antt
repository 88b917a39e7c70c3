-- A node with one more rule that its series already counts.
use Rattle.std.proofs.Common.{◌≡◌, List, [], ◌∷◌, ◌++◌, ap, ◌∙◌}
use Rattle.std.specs.Prelude.{Some, Result, Ok, Err, IfOk, IfErr}
use Rattle.std.specs.declared.alloc.AllocError.{AllocError}
use Rattle.slab.specs.Slab as slab
use Rattle.ts_spec.specs.StoredSeries.{StoredRule}
use Rattle.ts_restore.specs.Restored.{with_stored_rule}
use Rattle.ts_sample.specs.declared.sample.Id.{Id}
use Rattle.ts_bucket.specs.Grid.{IsGrid}
use Rattle.ts_rules.specs.declared.rule.Rule.{Rule}
use Rattle.ts_rules.specs.Rules.{stored_rule_for}
use Rattle.ts_db.specs.declared.node.Node.{Node}
use Rattle.ts_db.specs.declared.store.Store.{Store}
use Rattle.ts_db.specs.Linking.{HasRules, IsStoredChange}
use Rattle.ts_db.specs.NodeChanges.{IsNodeChanged}
use Rattle.ts_db.specs.Restorable.{PushesRule}
use Rattle.ts_db.specs.Store.{key_in, stored_node, db_view_of, Nodes, HasNode, HasLiveLinks, IsStore, IsInOrder}
use Rattle.ts_db.proofs.NewLinks.{store-turned, kept-turned, same-turned, kept-rules, live-rules, node-rules, live-more, grids-more, rules-more}

module _ (s : Store) (store : IsInOrder s) (id : Id) (new : Nodes) (rule : Rule) (to : HasNode s.nodes rule.dest) where
  abbrev Pushes : Result (Unit {0}) AllocError → Type 0
  Pushes r = IsNodeChanged s.nodes new id (PushesRule rule r)

  -- the key stays
  pub name-pushed : (r : Result (Unit {0}) AllocError) (t : Pushes r) → t.now.key ≡ t.was.key
  name-pushed (Ok x) t = ap (λ (y : Node). y.key) t.so.added.rest
  name-pushed (Err e) t = ap (λ (y : Node). y.key) t.so.unchanged.rest

  more-links : (was now : Node) → slab.get s.nodes id.0 ≡ Some was → HasRules (was.rules.items ++ rule ∷ []) was now → HasLiveLinks s.nodes now
  more-links was now got h =
      let live = store.live id.0 was got in live-rules s.nodes (was.rules.items ++ rule ∷ []) was now h (live-more s.nodes was.rules.items rule live.rules to) live.source

  same-links : (was now : Node) → slab.get s.nodes id.0 ≡ Some was → HasRules was.rules.items was now → HasLiveLinks s.nodes now
  same-links was now got h = let live = store.live id.0 was got in live-rules s.nodes was.rules.items was now h live.rules live.source

  pub store-pushed : (r : Result (Unit {0}) AllocError) → Pushes r → IsGrid rule.grid → IsStore s.limits new s.keys.entries
  store-pushed (Ok x) t fits =
      let node = store.each id.0 t.was t.there in
      store-turned s store id new t (name-pushed (Ok x) t) (more-links t.was t.now t.there t.so.added)
      (node-rules s.limits (t.was.rules.items ++ rule ∷ []) t.was t.now t.so.added (grids-more t.was.rules.items rule node.grids fits) node)
  store-pushed (Err e) t fits =
      let node = store.each id.0 t.was t.there in
      store-turned s store id new t (name-pushed (Err e) t) (same-links t.was t.now t.there t.so.unchanged) (node-rules s.limits t.was.rules.items t.was t.now t.so.unchanged node.grids node)

  pub kept-pushed : (r : Result (Unit {0}) AllocError) → Pushes r → IfOk r (λ x. IsStoredChange s id (with_stored_rule (stored_rule_for (key_in s.nodes rule.dest) rule)) (record s { nodes = new }))
  kept-pushed (Ok x) t =
      kept-turned s store id new t (name-pushed (Ok x) t) (with_stored_rule (stored_rule_for (key_in s.nodes rule.dest) rule)) (more-links t.was t.now t.there t.so.added)
      (kept-rules s.nodes (t.was.rules.items ++ rule ∷ []) t.was t.now t.so.added
      ∙ ap (λ (qs : List StoredRule). record (stored_node s.nodes t.was) { rules = qs }) (rules-more (key_in s.nodes) t.was.rules.items rule))
  kept-pushed (Err e) t = tt

  pub none-pushed : (r : Result (Unit {0}) AllocError) → Pushes r → IfErr r (λ x. db_view_of (record s { nodes = new }) ≡ db_view_of s)
  none-pushed (Ok x) t = tt
  none-pushed (Err e) t =
      same-turned s store id new t (name-pushed (Err e) t) (same-links t.was t.now t.there t.so.unchanged) (ap (λ (y : Node). y.series) t.so.unchanged.rest)
      (kept-rules s.nodes t.was.rules.items t.was t.now t.so.unchanged)
