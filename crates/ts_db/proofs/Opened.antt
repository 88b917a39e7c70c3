-- The samples of a series with the row of its rule's open bucket.
use Rattle.std.proofs.Common.{◌≡◌, ℕ, Bool, true, false, ◌==◌, List, [], ◌∷◌, refl, sym, ◌∙◌, ap, eqb-true, eq-eqb}
use Rattle.std.specs.Prelude.{if◌then◌else◌, Option, None, Some, option_map}
use Rattle.slab.specs.Slab as slab
use Rattle.ts_spec.specs.Sample.{Point, put_all}
use Rattle.ts_spec.specs.Key.{Key, same}
use Rattle.ts_spec.specs.Keyed.{get}
use Rattle.ts_spec.specs.StoredSeries.{StoredRule}
use Rattle.ts_spec.specs.StoredStep.{list_at, stored_rules_at}
use Rattle.ts_spec.specs.StoredQueries.{rule_from, open_row, with_open, latest_list_at, stored_asked}
use Rattle.ts_spec.specs.StoredUpdates.{stored_rule_to}
use Rattle.ts_spec.proofs.Keys.{same-refl, same-true}
use Rattle.ts_spec.proofs.Tidy.{some-same}
use Rattle.ts_sample.specs.declared.sample.Id.{Id}
use Rattle.ts_series.specs.History.{list_of, low}
use Rattle.ts_rules.specs.declared.rule.Rule.{Rule}
use Rattle.ts_rules.specs.Rules.{stored_rule_for}
use Rattle.ts_db.specs.declared.node.Node.{Node}
use Rattle.ts_db.specs.declared.store.Store.{Store}
use Rattle.ts_db.specs.Latest.{rule_among}
use Rattle.ts_db.specs.Store.{rules_by, key_at, key_in, stored_node, db_view_of, id_for_key, HasNode, AreLive, IsInOrder, Holds}
use Rattle.ts_db.proofs.Applying.{there}
use Rattle.ts_db.proofs.Known.{named}

module _ (s : Store) (store : IsInOrder s) (key : Key) (id : Id) (n : Node) (holds : Holds s key id n) where
  -- its own samples
  own : list_of n.series ≡ list_at (get key (db_view_of s).keys)
  own = sym (ap list_at (there s store key id n holds))

  -- with the open bucket
  asked-latest : stored_asked (db_view_of s).keys true key ≡ with_open (rule_from (db_view_of s).keys key (option_map (key_in s.nodes) n.source)) (stored_node s.nodes n)
  asked-latest = ap (latest_list_at (db_view_of s).keys key) (there s store key id n holds)

  -- without a source
  pub asked-bare : n.source ≡ None → stored_asked (db_view_of s).keys true key ≡ list_at (get key (db_view_of s).keys)
  asked-bare none = asked-latest ∙ ap (λ (o : Option Id). with_open (rule_from (db_view_of s).keys key (option_map (key_in s.nodes) o)) (stored_node s.nodes n)) none ∙ own

  -- an id has the key exactly where it is that of the key
  same-number : (i : Id) → HasNode s.nodes i → same (key_in s.nodes i) key ≡ (i.0 == id.0)
  same-number i live = go (i.0 == id.0) refl
    where
      other : (b : Bool) → same (key_in s.nodes i) key ≡ b → (i.0 == id.0) ≡ false → same (key_in s.nodes i) key ≡ false
      other true x apart =
          let name : live.node.key ≡ key = sym (ap key_at live.there) ∙ same-true (key_in s.nodes i) key x in
          let one : Some i ≡ Some id = sym (store.owned i.0 live.node live.there) ∙ ap (λ k. id_for_key k s.keys.entries) name ∙ holds.number in
          absurd (cc (sym apart, eq-eqb i.0 id.0 (ap (λ (j : Id). j.0) (some-same i id one))))
      other false x apart = x

      go : (b : Bool) → (i.0 == id.0) ≡ b → same (key_in s.nodes i) key ≡ (i.0 == id.0)
      go true x =
          ap (λ (k : Key). same k key) (ap key_at (ap (slab.get s.nodes) (eqb-true i.0 id.0 x)) ∙ named s store key id n holds) ∙ same-refl key ∙ sym x
      go false x = other (same (key_in s.nodes i) key) refl x ∙ sym x

  -- the rule to the key is that to the id
  rule-number : (rs : List Rule) → AreLive s.nodes rs → stored_rule_to key (rules_by (key_in s.nodes) rs) ≡ option_map (λ r. stored_rule_for (key_in s.nodes r.dest) r) (rule_among id.0 rs)
  rule-number [] live = refl
  rule-number (r ∷ rs) live =
      ap (λ b. if b then Some (stored_rule_for (key_in s.nodes r.dest) r) else stored_rule_to key (rules_by (key_in s.nodes) rs)) (same-number r.dest live.0)
      ∙ go (r.dest.0 == id.0) (rule-number rs live.1)
    where
      go : (b : Bool) → stored_rule_to key (rules_by (key_in s.nodes) rs) ≡ option_map (λ r. stored_rule_for (key_in s.nodes r.dest) r) (rule_among id.0 rs)
          → (if b then Some (stored_rule_for (key_in s.nodes r.dest) r) else stored_rule_to key (rules_by (key_in s.nodes) rs)) ≡ option_map (λ r. stored_rule_for (key_in s.nodes r.dest) r) (if b then Some r else rule_among id.0 rs)
      go true ih = refl
      go false ih = ih

  -- ---- with a source

  module _ (j : Id) (g : Node) (from : n.source ≡ Some j) (at : slab.get s.nodes j.0 ≡ Some g) where
    rules : stored_rules_at (get (key_in s.nodes j) (db_view_of s).keys) ≡ rules_by (key_in s.nodes) g.rules.items
    rules =
        ap (λ (k : Key). stored_rules_at (get k (db_view_of s).keys)) (ap key_at at)
        ∙ ap stored_rules_at (there s store g.key j g (record { number = store.owned j.0 g at; node = at }))

    asked-from : stored_asked (db_view_of s).keys true key ≡ with_open (option_map (λ r. stored_rule_for (key_in s.nodes r.dest) r) (rule_among id.0 g.rules.items)) (stored_node s.nodes n)
    asked-from =
        asked-latest
        ∙ ap (λ (o : Option Id). with_open (rule_from (db_view_of s).keys key (option_map (key_in s.nodes) o)) (stored_node s.nodes n)) from
        ∙ ap (λ (qs : List StoredRule). with_open (stored_rule_to key qs) (stored_node s.nodes n)) rules
        ∙ ap (λ (o : Option StoredRule). with_open o (stored_node s.nodes n)) (rule-number g.rules.items (store.live j.0 g at).rules)

    -- whose rules do not lead to it
    pub asked-missing : None ≡ rule_among id.0 g.rules.items → stored_asked (db_view_of s).keys true key ≡ list_at (get key (db_view_of s).keys)
    asked-missing none = asked-from ∙ ap (λ (o : Option Rule). with_open (option_map (λ r. stored_rule_for (key_in s.nodes r.dest) r) o) (stored_node s.nodes n)) (sym none) ∙ own

    -- with the rule that does
    pub asked-row : (r : Rule) (row : List Point) → Some r ≡ rule_among id.0 g.rules.items → row ≡ open_row (low n.series) n.series.born (stored_rule_for [] r) r.current
        → stored_asked (db_view_of s).keys true key ≡ put_all row (list_at (get key (db_view_of s).keys))
    asked-row r row found is =
        asked-from ∙ ap (λ (o : Option Rule). with_open (option_map (λ r. stored_rule_for (key_in s.nodes r.dest) r) o) (stored_node s.nodes n)) (sym found)
        ∙ shown r.current ∙ (λ i. put_all (sym is i) (own i))
      where
        shown : (o : Option ℕ) → put_all (open_row (low n.series) n.series.born (stored_rule_for (key_in s.nodes r.dest) r) o) (list_of n.series) ≡ put_all (open_row (low n.series) n.series.born (stored_rule_for [] r) o) (list_of n.series)
        shown None = refl
        shown (Some t) = refl
