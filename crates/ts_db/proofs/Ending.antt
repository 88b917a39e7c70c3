-- Deleting all rules from and to a series takes three changes of the store.
use Rattle.std.proofs.Common.{◌≡◌, List, refl, sym, ◌∙◌, ap}
use Rattle.std.specs.Prelude.{Option, None, Some, option_map}
use Rattle.ts_spec.specs.Key.{Key}
use Rattle.ts_spec.specs.Keyed.{get, without_key}
use Rattle.ts_spec.specs.StoredSeries.{StoredRule}
use Rattle.ts_spec.specs.StoredKeys.{keys_changed}
use Rattle.ts_sample.specs.declared.sample.Id.{Id}
use Rattle.ts_rules.specs.declared.rule.Rule.{Rule}
use Rattle.ts_db.specs.declared.node.Node.{Node}
use Rattle.ts_db.specs.declared.store.Store.{Store}
use Rattle.ts_db.specs.Answering.{IsElsewhere}
use Rattle.ts_db.specs.Linking.{stored_ruleless, keys_unlinked, keys_rule_ended, IsStoredChange, IsAlone, KeepsNames}
use Rattle.ts_db.specs.Store.{rules_by, key_in, stored_node, id_for_key, db_view_of, contents_of, Contents, IsDb, Holds}
use Rattle.ts_db.proofs.Alone.{ended-alone}
use Rattle.ts_db.proofs.Applying.{there}
use Rattle.ts_db.proofs.Collecting.{get-ids}
use Rattle.ts_db.proofs.Freed.{same-rules-by}
use Rattle.ts_db.proofs.Known.{named}

same-source-by : (new old : Id → Key) → ((i : Id) → new i ≡ old i) → (o : Option Id) → option_map new o ≡ option_map old o
same-source-by new old same None = refl
same-source-by new old same (Some i) = ap (λ (k : Key). Some k) (same i)

module _ (s : Store) (db : IsDb s) (key : Key) (id : Id) (n : Node) (holds : Holds s key id n) (one two new : Store) (source : Option Id) (rules : List Rule) (own_source : source ≡ n.source) (own_rules : rules ≡ n.rules.items)
    (elsewhere : IsElsewhere s one id) (taken : IsStoredChange s id stored_ruleless one) (names : KeepsNames one two)
    (ended : contents_of two ≡ record (contents_of one) { keys = keys_rule_ended (option_map (key_in one.nodes) source) (key_in one.nodes id) (db_view_of one).keys })
    (freed : contents_of new ≡ record (contents_of two) { keys = keys_unlinked (rules_by (key_in two.nodes) rules) (db_view_of two).keys }) where
  whole : contents_of new
      ≡ record (contents_of s) { keys = keys_unlinked (rules_by (key_in s.nodes) n.rules.items) (keys_rule_ended (option_map (key_in s.nodes) n.source) key (keys_changed key stored_ruleless (db_view_of s).keys)) }
  whole =
      let by_key : rules_by (key_in two.nodes) rules ≡ rules_by (key_in s.nodes) n.rules.items =
      same-rules-by (key_in two.nodes) (key_in s.nodes) (λ i. names.names i ∙ elsewhere.names i) rules ∙ ap (λ (rs : List Rule). rules_by (key_in s.nodes) rs) own_rules in
      let from : option_map (key_in one.nodes) source ≡ option_map (key_in s.nodes) n.source = same-source-by (key_in one.nodes) (key_in s.nodes) elsewhere.names source ∙ ap (option_map (key_in s.nodes)) own_source in
      let own : key_in s.nodes id ≡ key = named s db.store key id n holds in
      let here : key_in one.nodes id ≡ key = elsewhere.names id ∙ own in
      freed
      ∙ ap (λ (qs : List StoredRule). record (contents_of two) { keys = keys_unlinked qs (db_view_of two).keys }) by_key
      ∙ ap (λ (x : Contents). record x { keys = keys_unlinked (rules_by (key_in s.nodes) n.rules.items) x.keys })
      (ended
      ∙ ap (λ (x : Contents). record x { keys = keys_rule_ended (option_map (key_in one.nodes) source) (key_in one.nodes id) x.keys }) taken
      ∙ (λ i. record (contents_of s) { keys = keys_rule_ended (from i) (here i) (keys_changed (own i) stored_ruleless (db_view_of s).keys) }))

  pub all-alone : IsAlone s new key
  all-alone = record {
    keys = ap (λ (x : Contents). without_key key x.keys) whole
        ∙ ended-alone s.limits (db_view_of s).keys db.stands.to.state db.stands.stands.state key (stored_node s.nodes n) (there s db.store key id n holds);
    limits = ap (λ (x : Contents). x.limits) whole;
    ids = ap (λ (x : Contents). x.ids) whole;
  }

-- the key keeps its id
pub still-numbered : (old new : Store) (key : Key) (id : Id) → IsAlone old new key → id_for_key key old.keys.entries ≡ Some id → id_for_key key new.keys.entries ≡ Some id
still-numbered old new key id alone is = sym (get-ids key new.keys.entries) ∙ ap (get key) alone.ids ∙ get-ids key old.keys.entries ∙ is
