-- Whether the destinations of a key's rules stay within the sample limit, in stored data and in nodes.
use Rattle.std.proofs.Common.{◌≡◌, Bool, true, false, List, [], ◌∷◌, length, refl, sym, ◌∙◌, ap}
use Rattle.std.specs.Prelude.{nat_lt, if◌then◌else◌, Option, None, Some, option_map}
use Rattle.ts_spec.specs.Key.{Key}
use Rattle.ts_spec.specs.Keyed.{get, with_key}
use Rattle.ts_spec.specs.StoredSeries.{StoredRule, StoredSeries, StoredKeys}
use Rattle.ts_spec.specs.StoredStep.{StoredOutcome, list_at, stored_rules_at, stored_first_full, stored_unless_full}
use Rattle.ts_spec.specs.StoredUpdates.{update_dest}
use Rattle.ts_spec.proofs.Keys.{same-refl, same-sym}
use Rattle.ts_spec.proofs.Maps.{get-with}
use Rattle.ts_sample.specs.declared.sample.Id.{Id}
use Rattle.ts_rules.specs.declared.rule.Rule.{Rule}
use Rattle.ts_db.specs.declared.node.Node.{Node}
use Rattle.ts_db.specs.declared.store.Store.{Store}
use Rattle.ts_db.specs.DestinationUpdates.{Rows, RemovedTimes, keys_destinations_updated}
use Rattle.ts_db.specs.Links.{IsLink, AreLinks}
use Rattle.ts_db.specs.Planning.{stored_rule_in, updated_dest_list, first_full}
use Rattle.ts_db.specs.Store.{rules_by, key_at, key_in, stored_node, stored_at_id, db_view_of, HasNode, AreLive, IsInOrder, Holds}
use Rattle.ts_db.proofs.Applying.{there}
use Rattle.ts_db.proofs.Fed.{get-update_dest, no-own}
use Rattle.ts_db.proofs.KeptLinks.{HasLinks}

module _ (s : Store) (store : IsInOrder s) (key : Key) (id : Id) (n : Node) (holds : Holds s key id n) (links : HasLinks (db_view_of s).keys key (rules_by (key_in s.nodes) n.rules.items))
    (rows : Rows) (gone : RemovedTimes) (e : StoredSeries) where
  abbrev all : List StoredRule
  all = rules_by (key_in s.nodes) n.rules.items

  -- the stored data once the key is another, and the destinations of its rules are updated
  abbrev pub keys_fed : StoredKeys
  keys_fed = keys_destinations_updated rows gone (rules_by (key_in s.nodes) n.rules.items) (with_key key e (db_view_of s).keys)

  -- what the key itself has
  pub own-update_dest : get key keys_fed ≡ Some e
  own-update_dest =
      get-update_dest rows gone all (with_key key e (db_view_of s).keys) key links.apart
      ∙ ap (λ (o : Option StoredRule). option_map (update_dest rows gone o) (get key (with_key key e (db_view_of s).keys))) (no-own (db_view_of s).keys key all all links.links)
      ∙ ap (option_map (update_dest rows gone None)) (get-with key key e (db_view_of s).keys ∙ ap (λ b. if b then Some e else get key (db_view_of s).keys) (same-refl key))

  -- the stored data of a live id is that of its key
  live-kept : (i : Id) → HasNode s.nodes i → get (key_in s.nodes i) (db_view_of s).keys ≡ stored_at_id s.nodes i
  live-kept i live =
      ap (λ (k : Key). get k (db_view_of s).keys) (ap key_at live.there)
      ∙ there s store live.node.key i live.node (record { number = store.owned i.0 live.node live.there; node = live.there })
      ∙ sym (ap (option_map (stored_node s.nodes)) live.there)

  -- what the destination of a rule has
  one-update_dest : (r : Rule) → IsLink (db_view_of s).keys key all (stored_rule_in s.nodes r) → HasNode s.nodes r.dest → list_at (get (key_in s.nodes r.dest) keys_fed) ≡ updated_dest_list s.nodes rows gone r
  one-update_dest r link live =
      ap list_at (get-update_dest rows gone all (with_key key e (db_view_of s).keys) (key_in s.nodes r.dest) links.apart
      ∙ ap (λ (o : Option StoredRule). option_map (update_dest rows gone o) (get (key_in s.nodes r.dest) (with_key key e (db_view_of s).keys))) link.found
      ∙ ap (option_map (update_dest rows gone (Some (stored_rule_in s.nodes r))))
      (get-with (key_in s.nodes r.dest) key e (db_view_of s).keys
      ∙ ap (λ b. if b then Some e else get (key_in s.nodes r.dest) (db_view_of s).keys) (same-sym key (key_in s.nodes r.dest) ∙ link.apart)
      ∙ live-kept r.dest live))

  -- the first destination that would show too many samples
  firsts : (rs : List Rule) → AreLinks (db_view_of s).keys key all (rules_by (key_in s.nodes) rs) → AreLive s.nodes rs
      → stored_first_full s.limits.samples keys_fed (rules_by (key_in s.nodes) rs) ≡ option_map (key_in s.nodes) (first_full s.limits.samples s.nodes rows gone rs)
  firsts [] x live = refl
  firsts (r ∷ rs) x live =
      ap (λ ps. if nat_lt s.limits.samples (length ps) then Some (key_in s.nodes r.dest) else stored_first_full s.limits.samples keys_fed (rules_by (key_in s.nodes) rs)) (one-update_dest r x.0 live.0)
      ∙ go (nat_lt s.limits.samples (length (updated_dest_list s.nodes rows gone r))) (firsts rs x.1 live.1)
    where
      go : (b : Bool) → stored_first_full s.limits.samples keys_fed (rules_by (key_in s.nodes) rs) ≡ option_map (key_in s.nodes) (first_full s.limits.samples s.nodes rows gone rs)
          → (if b then Some (key_in s.nodes r.dest) else stored_first_full s.limits.samples keys_fed (rules_by (key_in s.nodes) rs))
          ≡ option_map (key_in s.nodes) (if b then Some r.dest else first_full s.limits.samples s.nodes rows gone rs)
      go true ih = refl
      go false ih = ih

  -- the test on destinations, by the rules of the node
  pub destinations-tested : (done : StoredOutcome) → stored_unless_full (db_view_of s).keys (stored_first_full s.limits.samples keys_fed (stored_rules_at (get key (db_view_of s).keys))) done
      ≡ stored_unless_full (db_view_of s).keys (option_map (key_in s.nodes) (first_full s.limits.samples s.nodes rows gone n.rules.items)) done
  destinations-tested done =
      ap (λ (o : Option StoredSeries). stored_unless_full (db_view_of s).keys (stored_first_full s.limits.samples keys_fed (stored_rules_at o)) done) (there s store key id n holds)
      ∙ ap (λ (o : Option Key). stored_unless_full (db_view_of s).keys o done) (firsts n.rules.items links.links (store.live id.0 n holds.node).rules)
