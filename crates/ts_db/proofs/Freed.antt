-- The rule source of each destination is cleared, one after another.
use Rattle.std.proofs.Common.{◌≡◌, List, [], ◌∷◌, refl, ◌∙◌, ap}
use Rattle.std.specs.Prelude.{Option, None, Some}
use Rattle.ts_spec.specs.Key.{Key}
use Rattle.ts_spec.specs.StoredSeries.{StoredRule}
use Rattle.ts_sample.specs.declared.sample.Id.{Id}
use Rattle.ts_rules.specs.declared.rule.Rule.{Rule}
use Rattle.ts_rules.specs.Rules.{stored_rule_for}
use Rattle.ts_db.specs.declared.store.Store.{Store}
use Rattle.ts_db.specs.Answering.{IsElsewhere}
use Rattle.ts_db.specs.Linking.{stored_with_source, keys_unlinked, IsStoredChange}
use Rattle.ts_db.specs.Store.{rules_by, key_in, id_for_key, db_view_of, contents_of, Contents, Numbers, HasNode, AreLive, IsLiveSource, IsInOrder}

-- an id stays live where all keys stay
pub live-after : (old new : Store) → IsInOrder old → IsInOrder new → new.keys.entries ≡ old.keys.entries → (id : Id) → HasNode old.nodes id → HasNode new.nodes id
live-after old new before after same id live =
    let of = after.stored live.node.key id (ap (λ (es : Numbers). id_for_key live.node.key es) same ∙ before.owned id.0 live.node live.there) in
    record { node = of.0; there = of.1 }

pub all-live-after : (old new : Store) → IsInOrder old → IsInOrder new → new.keys.entries ≡ old.keys.entries → (rs : List Rule) → AreLive old.nodes rs → AreLive new.nodes rs
all-live-after old new before after same [] live = tt
all-live-after old new before after same (r ∷ rs) live = (live-after old new before after same r.dest live.0, all-live-after old new before after same rs live.1)

pub source-live-after : (old new : Store) → IsInOrder old → IsInOrder new → new.keys.entries ≡ old.keys.entries → (o : Option Id) → IsLiveSource old.nodes o → IsLiveSource new.nodes o
source-live-after old new before after same None live = tt
source-live-after old new before after same (Some id) live = live-after old new before after same id live

-- rules keep their keys
pub same-rules-by : (new old : Id → Key) → ((i : Id) → new i ≡ old i) → (rs : List Rule) → rules_by new rs ≡ rules_by old rs
same-rules-by new old same [] = refl
same-rules-by new old same (r ∷ rs) =
    let rest : rules_by new rs ≡ rules_by old rs = same-rules-by new old same rs in
    λ i. stored_rule_for (same r.dest i) r ∷ rest i

-- what is left to do, and that it comes to the same
pub record Freeing (init now : Store) (all rest : List Rule) : Type 0 where
  pub live : AreLive now.nodes rest
  pub result : record (contents_of now) { keys = keys_unlinked (rules_by (key_in now.nodes) rest) (db_view_of now).keys }
      ≡ record (contents_of init) { keys = keys_unlinked (rules_by (key_in init.nodes) all) (db_view_of init).keys }

-- after one more
pub freed-one : (init now new : Store) (all : List Rule) (r : Rule) (rest : List Rule) → Freeing init now all (r ∷ rest) → IsInOrder now → IsInOrder new → IsElsewhere now new r.dest
    → IsStoredChange now r.dest (stored_with_source None) new → Freeing init new all rest
freed-one init now new all r rest f before after elsewhere set = record {
  live = all-live-after now new before after elsewhere.entries rest f.live.1;
  result =
      ap (λ (qs : List StoredRule). record (contents_of new) { keys = keys_unlinked qs (db_view_of new).keys }) (same-rules-by (key_in new.nodes) (key_in now.nodes) elsewhere.names rest)
      ∙ ap (λ (x : Contents). record x { keys = keys_unlinked (rules_by (key_in now.nodes) rest) x.keys }) set
      ∙ f.result;
}
