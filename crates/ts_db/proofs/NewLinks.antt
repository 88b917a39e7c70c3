-- One node changes its links: the stored data of its key changes, and of no other.
use Rattle.std.proofs.Common.{◌≡◌, ◌<◌, ◌+◌, ◌==◌, Bool, true, false, not, cond, List, [], ◌∷◌, ◌++◌, filter, refl, sym, ◌∙◌, ap, subst, arith, eqb-true, eq-eqb}
use Rattle.std.specs.Prelude.{Some, Result, Ok, Err, IfOk, IfErr}
use Rattle.std.specs.declared.alloc.AllocError.{AllocError}
use Rattle.slab.specs.Slab as slab
use Rattle.ts_spec.specs.declared.limits.Limits.{Limits}
use Rattle.ts_spec.specs.declared.bucket.Aggregator.{Aggregator}
use Rattle.ts_spec.specs.Bucket.{Grid}
use Rattle.ts_spec.specs.Key.{Key, same}
use Rattle.ts_spec.specs.Keyed.{with_key}
use Rattle.ts_spec.specs.StoredSeries.{StoredRule, StoredSeries, StoredKeys}
use Rattle.ts_spec.specs.StoredKeys.{keys_changed, stored_with_rule}
use Rattle.ts_spec.proofs.Keys.{same-refl, same-true}
use Rattle.ts_spec.proofs.Tidy.{some-same}
use Rattle.ts_sample.specs.declared.sample.Id.{Id}
use Rattle.ts_bucket.specs.Grid.{IsGrid}
use Rattle.ts_series.specs.History.{IsKept}
use Rattle.ts_rules.specs.declared.rule.Rule.{Rule}
use Rattle.ts_rules.specs.Rules.{stored_rule_for}
use Rattle.ts_db.specs.declared.node.Node.{Node}
use Rattle.ts_db.specs.declared.store.Store.{Store}
use Rattle.ts_db.specs.Store.{rules_by, key_at, key_in, stored_node, stored_by_key, id_for_key, db_view_of, contents_of, Nodes, HasNode, AreLive, IsLiveSource, HasLiveLinks, HaveGrids, IsNode, IsStore, IsInOrder, Holds}
use Rattle.ts_db.specs.Linking.{IsStoredChange, CanMakeRule, HasOneMoreRule, HasRules}
use Rattle.ts_db.specs.NodeChanges.{IsNodeChanged, AddsRule}
use Rattle.ts_db.proofs.Applying.{there, store-changed, keys-changed}
use Rattle.ts_db.proofs.OneKey.{changed-alone, unchanged}
use Rattle.ts_db.proofs.Reaches.{db_view-turned}

-- ---- a node that changes its links alone, under its id

module _ (s : Store) (store : IsInOrder s) (id : Id) (new : Nodes) {by : (was now : Node) → Type 0} (t : IsNodeChanged s.nodes new id by) (name : t.now.key ≡ t.was.key) where
  holds : Holds s t.was.key id t.was
  holds = record { number = store.owned id.0 t.was t.there; node = t.there }

  -- the store stays in order
  pub store-turned : HasLiveLinks s.nodes t.now → IsNode s.limits t.now → IsStore s.limits new s.keys.entries
  store-turned links sound =
      subst (λ (nodes : Nodes). IsStore s.limits nodes s.keys.entries) (sym t.turned) (store-changed s store t.was.key id t.was t.now holds name links sound)

  kept-changed : HasLiveLinks s.nodes t.now → (db_view_of (record s { nodes = new })).keys ≡ with_key t.was.key (stored_node s.nodes t.now) (db_view_of s).keys
  kept-changed links = ap (λ (nodes : Nodes). stored_by_key nodes s.keys.entries) t.turned ∙ keys-changed s store t.was.key id t.was t.now holds name links

  -- and f changes the stored data of its key
  pub kept-turned : (f : StoredSeries → StoredSeries) → HasLiveLinks s.nodes t.now → stored_node s.nodes t.now ≡ f (stored_node s.nodes t.was) → IsStoredChange s id f (record s { nodes = new })
  kept-turned f links is =
      ap (λ (m : StoredKeys). record (contents_of s) { keys = m })
      (kept-changed links
      ∙ ap (λ (d : StoredSeries). with_key t.was.key d (db_view_of s).keys) is
      ∙ sym (changed-alone (db_view_of s).keys t.was.key (stored_node s.nodes t.was) f (there s store t.was.key id t.was holds))
      ∙ ap (λ (k : Key). keys_changed k f (db_view_of s).keys) (sym (ap key_at t.there)))

  -- or nothing changes, if f leaves it
  pub same-turned : HasLiveLinks s.nodes t.now → t.now.series ≡ t.was.series → stored_node s.nodes t.now ≡ stored_node s.nodes t.was → db_view_of (record s { nodes = new }) ≡ db_view_of s
  same-turned links series is =
      ap (λ (nodes : Nodes). db_view_of (record s { nodes = nodes })) t.turned
      ∙ db_view-turned s id.0 t.was t.now t.there series
      (keys-changed s store t.was.key id t.was t.now holds name links
      ∙ ap (λ (d : StoredSeries). with_key t.was.key d (db_view_of s).keys) is
      ∙ unchanged (db_view_of s).keys t.was.key (stored_node s.nodes t.was) (there s store t.was.key id t.was holds))

-- ---- a node with other rules

-- the stored data of a node with these rules
pub kept-rules : (nodes : Nodes) (rs : List Rule) (old new : Node) → HasRules rs old new → stored_node nodes new ≡ record (stored_node nodes old) { rules = rules_by (key_in nodes) rs }
kept-rules nodes rs old new h = ap (stored_node nodes) h.rest ∙ ap (λ (qs : List Rule). record (stored_node nodes old) { rules = rules_by (key_in nodes) qs }) h.rules

pub live-rules : (nodes : Nodes) (rs : List Rule) (old new : Node) → HasRules rs old new → AreLive nodes rs → IsLiveSource nodes old.source → HasLiveLinks nodes new
live-rules nodes rs old new h live source =
    subst (HasLiveLinks nodes) (sym h.rest) (record { rules = subst (AreLive nodes) (sym h.rules) live; source = source })

pub node-rules : (limits : Limits) (rs : List Rule) (old new : Node) → HasRules rs old new → HaveGrids rs → IsNode limits old → IsNode limits new
node-rules limits rs old new h grids x =
    subst (IsNode limits) (sym h.rest) (record { kept = x.kept; within = x.within; born = x.born; labels = x.labels; grids = subst HaveGrids (sym h.rules) grids })

-- ---- without the rules to an id

-- two ids with one key are one
pub same-name : (s : Store) → IsInOrder s → (a b : Id) → HasNode s.nodes a → HasNode s.nodes b → same (key_in s.nodes a) (key_in s.nodes b) ≡ (a.0 == b.0)
same-name s store a b x y = pick (a.0 == b.0) refl (same (key_in s.nodes a) (key_in s.nodes b)) refl
  where
    pick : (e : Bool) → (a.0 == b.0) ≡ e → (t : Bool) → same (key_in s.nodes a) (key_in s.nodes b) ≡ t → t ≡ e
    pick true e true f = refl
    pick false e false f = refl
    pick true e false f = absurd (cc (sym f ∙ ap (λ i. same (key_at (slab.get s.nodes i)) (key_in s.nodes b)) (eqb-true a.0 b.0 e) ∙ same-refl (key_in s.nodes b)))
    pick false e true f =
        let keys : x.node.key ≡ y.node.key = sym (ap key_at x.there) ∙ same-true (key_in s.nodes a) (key_in s.nodes b) f ∙ ap key_at y.there in
        let here : Id = record { 0 = a.0 } in
        let there : Id = record { 0 = b.0 } in
        let ids : Some here ≡ Some there = sym (store.owned a.0 x.node x.there) ∙ ap (λ (k : Key). id_for_key k s.keys.entries) keys ∙ store.owned b.0 y.node y.there in
        let one : here ≡ there = some-same here there ids in
        let alike : a.0 ≡ b.0 = ap (λ (i : Id). i.0) one in
        absurd (cc (sym e ∙ eq-eqb a.0 b.0 alike))

module _ (s : Store) (store : IsInOrder s) (dest : Id) (to : HasNode s.nodes dest) where
  abbrev left : Rule → Bool
  left r = not (r.dest.0 == dest.0)

  pub unruled : (rs : List Rule) → AreLive s.nodes rs → rules_by (key_in s.nodes) (filter left rs) ≡ filter (λ q. not (same q.dest (key_in s.nodes dest))) (rules_by (key_in s.nodes) rs)
  unruled [] live = refl
  unruled (r ∷ rs) live =
      go (left r) (unruled rs live.1)
      ∙ ap (λ b. cond (not b) (stored_rule_for (key_in s.nodes r.dest) r ∷ filter (λ q. not (same q.dest (key_in s.nodes dest))) (rules_by (key_in s.nodes) rs)) (filter (λ q. not (same q.dest (key_in s.nodes dest))) (rules_by (key_in s.nodes) rs)))
      (sym (same-name s store r.dest dest live.0 to))
    where
      go : (b : Bool) → rules_by (key_in s.nodes) (filter left rs) ≡ filter (λ q. not (same q.dest (key_in s.nodes dest))) (rules_by (key_in s.nodes) rs)
          → rules_by (key_in s.nodes) (cond b (r ∷ filter left rs) (filter left rs))
          ≡ cond b (stored_rule_for (key_in s.nodes r.dest) r ∷ filter (λ q. not (same q.dest (key_in s.nodes dest))) (rules_by (key_in s.nodes) rs)) (filter (λ q. not (same q.dest (key_in s.nodes dest))) (rules_by (key_in s.nodes) rs))
      go true ih = ap (λ (qs : List StoredRule). stored_rule_for (key_in s.nodes r.dest) r ∷ qs) ih
      go false ih = ih

  pub live-left : (rs : List Rule) → AreLive s.nodes rs → AreLive s.nodes (filter left rs)
  live-left [] live = tt
  live-left (r ∷ rs) live = go (left r) (live-left rs live.1)
    where
      go : (b : Bool) → AreLive s.nodes (filter left rs) → AreLive s.nodes (cond b (r ∷ filter left rs) (filter left rs))
      go true ih = (live.0, ih)
      go false ih = ih

  pub grids-left : (rs : List Rule) → HaveGrids rs → HaveGrids (filter left rs)
  grids-left [] g = tt
  grids-left (r ∷ rs) g = go (left r) (grids-left rs g.1)
    where
      go : (b : Bool) → HaveGrids (filter left rs) → HaveGrids (cond b (r ∷ filter left rs) (filter left rs))
      go true ih = (g.0, ih)
      go false ih = ih

-- ---- with one more rule

pub live-more : (nodes : Nodes) (rs : List Rule) (r : Rule) → AreLive nodes rs → HasNode nodes r.dest → AreLive nodes (rs ++ r ∷ [])
live-more nodes [] r live here = (here, tt)
live-more nodes (q ∷ rs) r live here = (live.0, live-more nodes rs r live.1 here)

pub grids-more : (rs : List Rule) (r : Rule) → HaveGrids rs → IsGrid r.grid → HaveGrids (rs ++ r ∷ [])
grids-more [] r g here = (here, tt)
grids-more (q ∷ rs) r g here = (g.0, grids-more rs r g.1 here)

pub rules-more : (names : Id → Key) (rs : List Rule) (r : Rule) → rules_by names (rs ++ r ∷ []) ≡ rules_by names rs ++ stored_rule_for (names r.dest) r ∷ []
rules-more names [] r = refl
rules-more names (q ∷ rs) r = ap (λ (qs : List StoredRule). stored_rule_for (names q.dest) q ∷ qs) (rules-more names rs r)

module _ (nodes : Nodes) (dest : Id) (agg : Aggregator) (grid : Grid) (old new : Node) (h : HasOneMoreRule dest agg grid old new) where
  pub more-name : new.key ≡ old.key
  more-name = ap (λ (x : Node). x.key) h.rest

  pub more-links : HasLiveLinks nodes old → HasNode nodes dest → HasLiveLinks nodes new
  more-links live to =
      subst (HasLiveLinks nodes) (sym h.rest)
      (record { rules = subst (AreLive nodes) (sym h.rules) (live-more nodes old.rules.items h.rule live.rules (subst (HasNode nodes) (sym h.leads) to)); source = live.source })

  pub more-node : (limits : Limits) → IsNode limits old → old.series.born < limits.born → IsGrid grid → IsKept new.series → IsNode limits new
  more-node limits x room fits series =
      subst (IsNode limits) (sym h.rest) (record {
        kept = subst IsKept (ap (λ (y : Node). y.series) h.rest) series;
        within = x.within;
        born = omega (arith, room);
        labels = x.labels;
        grids = subst HaveGrids (sym h.rules) (grids-more old.rules.items h.rule x.grids (subst IsGrid (sym (ap (λ (q : StoredRule). q.grid) (h.kept []))) fits));
      })

  pub more-kept : stored_node nodes new ≡ stored_with_rule (key_in nodes dest) agg grid (stored_node nodes old)
  more-kept =
      ap (stored_node nodes) h.rest
      ∙ ap (λ (qs : List StoredRule). record (stored_node nodes old) { born = old.series.born + 1; rules = qs })
      (ap (rules_by (key_in nodes)) h.rules
      ∙ rules-more (key_in nodes) old.rules.items h.rule
      ∙ ap (λ (q : StoredRule). rules_by (key_in nodes) old.rules.items ++ q ∷ []) (ap (λ (i : Id). stored_rule_for (key_in nodes i) h.rule) h.leads ∙ h.kept (key_in nodes dest)))

-- a node with one more rule, or with the same rules if memory ran out
module _ (s : Store) (store : IsInOrder s) (id : Id) (new : Nodes) (dest : Id) (agg : Aggregator) (grid : Grid) (to : HasNode s.nodes dest) where
  abbrev Takes : Result (Unit {0}) AllocError → Type 0
  Takes r = IsNodeChanged s.nodes new id (AddsRule dest agg grid r)

  had-links : (was now : Node) → slab.get s.nodes id.0 ≡ Some was → HasRules was.rules.items was now → HasLiveLinks s.nodes now
  had-links was now got h = live-rules s.nodes was.rules.items was now h (store.live id.0 was got).rules (store.live id.0 was got).source

  -- the key stays
  pub name-more : (r : Result (Unit {0}) AllocError) (t : Takes r) → t.now.key ≡ t.was.key
  name-more (Ok x) t = more-name s.nodes dest agg grid t.was t.now t.so.added
  name-more (Err e) t = ap (λ (y : Node). y.key) t.so.unchanged.rest

  pub store-more : (r : Result (Unit {0}) AllocError) (t : Takes r) → CanMakeRule s.limits t.was → IsGrid grid → IsStore s.limits new s.keys.entries
  store-more (Ok x) t room fits =
      store-turned s store id new t (name-more (Ok x) t) (more-links s.nodes dest agg grid t.was t.now t.so.added (store.live id.0 t.was t.there) to)
      (more-node s.nodes dest agg grid t.was t.now t.so.added s.limits (store.each id.0 t.was t.there) room.within fits t.so.kept)
  store-more (Err e) t room fits =
      store-turned s store id new t (name-more (Err e) t) (had-links t.was t.now t.there t.so.unchanged)
      (node-rules s.limits t.was.rules.items t.was t.now t.so.unchanged (store.each id.0 t.was t.there).grids (store.each id.0 t.was t.there))

  pub kept-more : (r : Result (Unit {0}) AllocError) → Takes r → IfOk r (λ x. IsStoredChange s id (stored_with_rule (key_in s.nodes dest) agg grid) (record s { nodes = new }))
  kept-more (Ok x) t =
      kept-turned s store id new t (name-more (Ok x) t) (stored_with_rule (key_in s.nodes dest) agg grid)
      (more-links s.nodes dest agg grid t.was t.now t.so.added (store.live id.0 t.was t.there) to) (more-kept s.nodes dest agg grid t.was t.now t.so.added)
  kept-more (Err e) t = tt

  pub none-more : (r : Result (Unit {0}) AllocError) → Takes r → IfErr r (λ x. db_view_of (record s { nodes = new }) ≡ db_view_of s)
  none-more (Ok x) t = tt
  none-more (Err e) t =
      same-turned s store id new t (name-more (Err e) t) (had-links t.was t.now t.there t.so.unchanged) (ap (λ (y : Node). y.series) t.so.unchanged.rest)
      (kept-rules s.nodes t.was.rules.items t.was t.now t.so.unchanged)
