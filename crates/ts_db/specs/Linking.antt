-- Links between series: how creating and deleting a rule changes stored data and nodes.
use Rattle.std.specs.Prelude.{◌≡◌, ℕ, ◌+◌, ◌-◌, ◌^◌, ◌<◌, Bool, true, false, not, ◌==◌, List, [], ◌∷◌, ◌++◌, filter, length, Option, None, Some, is_some, nat_le, if◌then◌else◌}
use Rattle.std.specs.List.{list_any}
use Rattle.ts_spec.specs.declared.limits.Limits.{Limits}
use Rattle.ts_spec.specs.declared.bucket.Aggregator.{Aggregator}
use Rattle.ts_spec.specs.Bucket.{Grid}
use Rattle.ts_spec.specs.Aggregate.{nothing}
use Rattle.ts_spec.specs.Key.{Key, same}
use Rattle.ts_spec.specs.Keyed.{Keyed, get, without_key}
use Rattle.ts_spec.specs.Refusal.{Refusal, SourceIsDest, DestIsSource, DestHasSource, RulesSpent, RulesFull}
use Rattle.ts_spec.specs.StoredSeries.{StoredRule, StoredSeries, StoredKeys}
use Rattle.ts_spec.specs.StoredUpdates.{stored_rule_to}
use Rattle.ts_spec.specs.StoredKeys.{keys_changed, keys_dropped}
use Rattle.ts_sample.specs.declared.sample.Id.{Id}
use Rattle.ts_rules.specs.declared.rule.Rule.{Rule}
use Rattle.ts_rules.specs.Rules.{stored_rule_for}
use Rattle.ts_db.specs.declared.node.Node.{Node}
use Rattle.ts_db.specs.declared.store.Store.{Store}
use Rattle.ts_db.specs.declared.fault.DbFault.{DbFault}
use Rattle.ts_db.specs.Faults.{refusal_of}
use Rattle.ts_db.specs.Store.{key_in, db_view_of, contents_of}

-- ---- in stored data

-- the data stored for the key of `id` changes by f; all else is unchanged
abbrev pub IsStoredChange : (old : Store) → Id → (StoredSeries → StoredSeries) → (new : Store) → Type 0
IsStoredChange old id f new = contents_of new ≡ record (contents_of old) { keys = keys_changed (key_in old.nodes id) f (db_view_of old).keys }

-- a key without its rules to `dest`
abbrev pub stored_without_rule_to : Key → StoredSeries → StoredSeries
stored_without_rule_to dest d = record d { rules = filter (λ q. not (same q.dest dest)) d.rules }

-- a key without rules
abbrev pub stored_ruleless : StoredSeries → StoredSeries
stored_ruleless d = record d { rules = [] }

-- a key with this rule source, or without one
abbrev pub stored_with_source : Option Key → StoredSeries → StoredSeries
stored_with_source source d = record d { source = source }

-- the stored data after the rule source of each destination is cleared
abbrev pub keys_unlinked : List StoredRule → StoredKeys → StoredKeys
keys_unlinked [] m = m
keys_unlinked (q ∷ qs) m = keys_unlinked qs (keys_changed q.dest (stored_with_source None) m)

-- the stored data after the rule from this source to a key is deleted, if there is a source
abbrev pub keys_rule_ended : Option Key → Key → StoredKeys → StoredKeys
keys_rule_ended None key m = m
keys_rule_ended (Some source) key m = keys_changed source (stored_without_rule_to key) m

-- No rule leads to the key, and it is no rule source.
pub record IsFreeOf (key : Key) (d : StoredSeries) : Type 0 where
  pub rules : stored_rule_to key d.rules ≡ None
  pub source : (d.source ≡ Some key) → ⊥

-- the same for each other key
abbrev pub AreFreeOf : Key → StoredKeys → Type 0
AreFreeOf key m = (k : Key) (d : StoredSeries) → get k m ≡ Some d → same key k ≡ false → IsFreeOf key d

-- all rules from the key and to it are deleted; apart from the key itself nothing else has changed
pub record IsAlone (old new : Store) (key : Key) : Type 0 where
  pub keys : without_key key (db_view_of new).keys ≡ keys_dropped key (db_view_of old).keys
  pub limits : new.limits ≡ old.limits
  pub ids : (db_view_of new).ids ≡ (db_view_of old).ids

-- ids and keys are unchanged
pub record KeepsNames (old new : Store) : Type 0 where
  pub entries : new.keys.entries ≡ old.keys.entries
  pub names : (i : Id) → key_in new.nodes i ≡ key_in old.nodes i

-- ---- in nodes

-- whether there is any rule
abbrev pub any_rule : List Rule → Bool
any_rule [] = false
any_rule (r ∷ rs) = true

-- whether one of the rules leads to this id
abbrev pub has_rule_to : ℕ → List Rule → Bool
has_rule_to i rs = list_any (λ r. r.dest.0 == i) rs

-- the refusal of a rule between these series, if it is not allowed
abbrev pub rule_conflict_refusal : Limits → (source dest : Node) → Option Refusal
rule_conflict_refusal limits s d =
    if is_some s.source then Some SourceIsDest
    else (if any_rule d.rules.items then Some DestIsSource
    else (if is_some d.source then Some DestHasSource
    else (if nat_le limits.born s.series.born then Some RulesSpent
    else (if nat_le limits.rules (length s.rules.items) then Some RulesFull else None))))

-- The series may have one more rule in its lifetime.
pub record CanMakeRule (limits : Limits) (n : Node) : Type 0 where
  pub within : n.series.born < limits.born
  pub counts : n.series.born < 2 ^ 32 - 1

-- the error represents the refusal of the rule; without an error the rule is allowed
abbrev pub IsRuleConflict : Limits → (source dest : Node) → Option DbFault → Type 0
IsRuleConflict limits s d None = (rule_conflict_refusal limits s d ≡ None) × CanMakeRule limits s
IsRuleConflict limits s d (Some fault) = (ids : Keyed Id) → refusal_of ids fault ≡ rule_conflict_refusal limits s d

-- The node has one more rule, without an open bucket, and counts it.
pub record HasOneMoreRule (dest : Id) (agg : Aggregator) (grid : Grid) (old new : Node) : Type 0 where
  pub rule : Rule
  pub leads : rule.dest ≡ dest
  pub kept : (k : Key) → stored_rule_for k rule ≡ record { dest = k; agg = agg; grid = grid; made = old.series.born + 1; current = None; running = nothing }
  pub rules : new.rules.items ≡ old.rules.items ++ rule ∷ []
  pub rest : new ≡ record old { series = record old.series { born = old.series.born + 1 }; rules = new.rules }

-- The node has these rules instead of its own.
pub record HasRules (rs : List Rule) (old new : Node) : Type 0 where
  pub rules : new.rules.items ≡ rs
  pub rest : new ≡ record old { rules = new.rules }
