-- Deleting a rule: the step in stored data.
use Rattle.std.proofs.Common.{◌≡◌, ◌==◌, Bool, true, false, List, [], ◌∷◌, refl, sym, ◌∙◌, ap}
use Rattle.std.specs.Prelude.{◌||◌, if◌then◌else◌, Option, None, Some, is_some}
use Rattle.ts_spec.specs.Key.{Key, same}
use Rattle.ts_spec.specs.Refusal.{NoRule}
use Rattle.ts_spec.specs.Response.{Done}
use Rattle.ts_spec.specs.StoredSeries.{StoredSeries}
use Rattle.ts_spec.specs.StoredKeys.{keys_changed, keys_without_rule}
use Rattle.ts_spec.specs.StoredStep.{stored_refused, stored_delete_rule_at, stored_delete_rule}
use Rattle.ts_spec.specs.StoredUpdates.{stored_rule_to}
use Rattle.ts_spec.proofs.Keys.{same-true}
use Rattle.ts_sample.specs.declared.sample.Id.{Id}
use Rattle.ts_rules.specs.declared.rule.Rule.{Rule}
use Rattle.ts_rules.specs.Rules.{stored_rule_for}
use Rattle.ts_db.specs.declared.node.Node.{Node}
use Rattle.ts_db.specs.declared.store.Store.{Store}
use Rattle.ts_db.specs.Answering.{IsElsewhere}
use Rattle.ts_db.specs.Linking.{stored_without_rule_to, stored_with_source, has_rule_to, IsStoredChange}
use Rattle.ts_db.specs.Store.{rules_by, key_at, key_in, stored_node, id_for_key, db_view_of, contents_of, Contents, HasNode, AreLive, IsInOrder, IsDb, Holds}
use Rattle.ts_db.proofs.Applying.{there}
use Rattle.ts_db.proofs.Ended.{without-rule}
use Rattle.ts_db.proofs.Known.{links, named}
use Rattle.ts_db.proofs.NewLinks.{same-name}

-- whether a rule leads to an id depends on its key
pub rule-some : (s : Store) → IsInOrder s → (dest : Id) → HasNode s.nodes dest → (rs : List Rule) → AreLive s.nodes rs → is_some (stored_rule_to (key_in s.nodes dest) (rules_by (key_in s.nodes) rs)) ≡ has_rule_to dest.0 rs
rule-some s store dest to [] live = refl
rule-some s store dest to (r ∷ rs) live =
    ap (λ b. is_some (if b then Some (stored_rule_for (key_in s.nodes r.dest) r) else stored_rule_to (key_in s.nodes dest) (rules_by (key_in s.nodes) rs))) (same-name s store r.dest dest live.0 to)
    ∙ go (r.dest.0 == dest.0) (rule-some s store dest to rs live.1)
  where
    go : (b : Bool) → is_some (stored_rule_to (key_in s.nodes dest) (rules_by (key_in s.nodes) rs)) ≡ has_rule_to dest.0 rs
        → is_some (if b then Some (stored_rule_for (key_in s.nodes r.dest) r) else stored_rule_to (key_in s.nodes dest) (rules_by (key_in s.nodes) rs)) ≡ (b || has_rule_to dest.0 rs)
    go true ih = refl
    go false ih = ih

-- no rule leads to a key that is missing
pub none-to-missing : (s : Store) → IsInOrder s → (dest : Key) → id_for_key dest s.keys.entries ≡ None → (rs : List Rule) → AreLive s.nodes rs → stored_rule_to dest (rules_by (key_in s.nodes) rs) ≡ None
none-to-missing s store dest none [] live = refl
none-to-missing s store dest none (r ∷ rs) live = go (same (key_in s.nodes r.dest) dest) refl (none-to-missing s store dest none rs live.1)
  where
    go : (b : Bool) → same (key_in s.nodes r.dest) dest ≡ b → stored_rule_to dest (rules_by (key_in s.nodes) rs) ≡ None
        → (if b then Some (stored_rule_for (key_in s.nodes r.dest) r) else stored_rule_to dest (rules_by (key_in s.nodes) rs)) ≡ None
    go true e ih =
        let alike : live.0.node.key ≡ dest = sym (ap key_at live.0.there) ∙ same-true (key_in s.nodes r.dest) dest e in
        absurd (cc (sym (store.owned r.dest.0 live.0.node live.0.there) ∙ ap (λ (k : Key). id_for_key k s.keys.entries) alike ∙ none))
    go false e ih = ih

module _ (s : Store) (db : IsDb s) (source dest : Key) (from : Id) (n : Node) (holds : Holds s source from n) where
  step-at : stored_delete_rule (db_view_of s).keys source dest
      ≡ (if is_some (stored_rule_to dest (rules_by (key_in s.nodes) n.rules.items)) then record { keys = keys_without_rule source dest (db_view_of s).keys; response = Done } else stored_refused (db_view_of s).keys NoRule)
  step-at = ap (λ (o : Option StoredSeries). stored_delete_rule_at (db_view_of s).keys source dest o) (there s db.store source from n holds)

  by-test : (b : Bool) → is_some (stored_rule_to dest (rules_by (key_in s.nodes) n.rules.items)) ≡ b
      → stored_delete_rule (db_view_of s).keys source dest
      ≡ (if b then record { keys = keys_without_rule source dest (db_view_of s).keys; response = Done } else stored_refused (db_view_of s).keys NoRule)
  by-test b e = step-at ∙ ap (λ b. if b then record { keys = keys_without_rule source dest (db_view_of s).keys; response = Done } else stored_refused (db_view_of s).keys NoRule) e

  -- the destination is missing
  pub to-missing : id_for_key dest s.keys.entries ≡ None → stored_delete_rule (db_view_of s).keys source dest ≡ stored_refused (db_view_of s).keys NoRule
  to-missing none = by-test false (ap is_some (none-to-missing s db.store dest none n.rules.items (db.store.live from.0 n holds.node).rules))

  module _ (to : Id) (d : Node) (other : Holds s dest to d) where
    tested : (b : Bool) → b ≡ has_rule_to to.0 n.rules.items → is_some (stored_rule_to dest (rules_by (key_in s.nodes) n.rules.items)) ≡ b
    tested b e =
        ap (λ (k : Key). is_some (stored_rule_to k (rules_by (key_in s.nodes) n.rules.items))) (sym (named s db.store dest to d other))
        ∙ rule-some s db.store to (record { node = d; there = other.node }) n.rules.items (db.store.live from.0 n holds.node).rules
        ∙ sym e

    -- there is no rule
    pub to-none : (b : Bool) → b ≡ has_rule_to to.0 n.rules.items → b ≡ false → stored_delete_rule (db_view_of s).keys source dest ≡ stored_refused (db_view_of s).keys NoRule
    to-none b e is = by-test false (tested b e ∙ is)

    -- there is one
    pub to-one : (b : Bool) → b ≡ has_rule_to to.0 n.rules.items → b ≡ true
        → stored_delete_rule (db_view_of s).keys source dest ≡ record { keys = keys_without_rule source dest (db_view_of s).keys; response = Done }
    to-one b e is = by-test true (tested b e ∙ is)

    -- both changes together give the stored data afterwards
    pub both-ended : (mid new : Store) (b : Bool) → b ≡ has_rule_to to.0 n.rules.items → b ≡ true → IsElsewhere s mid from → IsStoredChange s from (stored_without_rule_to (key_in s.nodes to)) mid → IsStoredChange mid to (stored_with_source None) new
        → contents_of new ≡ record (contents_of s) { keys = keys_without_rule source dest (db_view_of s).keys }
    both-ended mid new b e is elsewhere removed set =
        set
        ∙ ap (λ (x : Contents). record x { keys = keys_changed (key_in mid.nodes to) (stored_with_source None) x.keys }) removed
        ∙ (let here : key_in mid.nodes to ≡ dest = elsewhere.names to ∙ named s db.store dest to d other in
        let own : key_in s.nodes from ≡ source = named s db.store source from n holds in
        let goal : key_in s.nodes to ≡ dest = named s db.store dest to d other in
        λ i. record (contents_of s) { keys = keys_changed (here i) (stored_with_source None) (keys_changed (own i) (stored_without_rule_to (goal i)) (db_view_of s).keys) })
        ∙ (let same_keys = without-rule (db_view_of s).keys source dest (stored_node s.nodes n) (there s db.store source from n holds) (links s db source from n holds) (tested b e ∙ is) in
        λ i. record (contents_of s) { keys = same_keys i })
