-- The commands that create and alter series, and those that create and delete rules and keys.
use Rattle.std.specs.Prelude.{ℕ, suc, ◌+◌, Bool, true, false, nat_lt, nat_le, if◌then◌else◌, List, [], ◌∷◌, ◌++◌, length, Option, Some, None, is_some}
use Rattle.std.specs.Option.{unwrap_or}
use Rattle.ts_spec.specs.declared.limits.Limits.{Limits}
use Rattle.ts_spec.specs.declared.bucket.Aggregator.{Aggregator}
use Rattle.ts_spec.specs.Sample.{Point}
use Rattle.ts_spec.specs.Bucket.{Grid}
use Rattle.ts_spec.specs.Key.{Key, same}
use Rattle.ts_spec.specs.Keyed.{get, with_key, count_keys}
use Rattle.ts_spec.specs.State.{Label, Rule, Record, State, link_to, rule_to, change}
use Rattle.ts_spec.specs.Rules.{settled, without_rule, dropped}
use Rattle.ts_spec.specs.Refusal.{NoKey, KeyExists, KeysFull, LabelsFull, SameKey, SourceIsDest, DestIsSource, DestHasSource, RulesSpent, RulesFull, NoRule}
use Rattle.ts_spec.specs.Command.{Spec, Change}
use Rattle.ts_spec.specs.Response.{Response, Done, Count}
use Rattle.ts_spec.specs.Outcome.{refused, answer_only, Outcome}

-- ---- TS.CREATE and TS.ALTER

-- a new series with these samples; `high` is the time of the last one
abbrev pub fresh : Spec → List Point → Option ℕ → Record
fresh spec plain high = record { options = spec.options; labels = spec.labels; plain = plain; high = high; born = 0; rules = [] }

-- adds a series, within the limits on labels and keys
abbrev pub new_key : Limits → State → Key → Record → Response → Outcome
new_key limits m key d response =
    if nat_lt limits.labels (length d.labels) then refused m LabelsFull
    else (if nat_le limits.keys (count_keys m) then refused m KeysFull else record { state = with_key key d m; response = response })

-- TS.CREATE
abbrev pub create : Limits → State → Key → Spec → Outcome
create limits m key spec =
    if is_some (get key m) then refused m KeyExists else new_key limits m key (fresh spec [] None) Done

-- a record with the given options and labels in place of its own
abbrev pub altered : Change → Record → Record
altered c d = record d {
  options = record {
    retention = unwrap_or c.retention d.options.retention;
    encoding = d.options.encoding;
    chunk_size = unwrap_or c.chunk_size d.options.chunk_size;
    policy = unwrap_or c.policy d.options.policy;
    ignore = unwrap_or c.ignore d.options.ignore;
  };
  labels = unwrap_or c.labels d.labels;
}

-- whether labels are given and exceed the limit
abbrev pub is_longer : ℕ → Option (List Label) → Bool
is_longer limit None = false
is_longer limit (Some labels) = nat_lt limit (length labels)

-- TS.ALTER on the record at a key
abbrev pub alter_at : Limits → State → Key → Change → Option Record → Outcome
alter_at limits m key c None = refused m NoKey
alter_at limits m key c (Some d) =
    if is_longer limits.labels c.labels then refused m LabelsFull else record { state = settled (change key (altered c) m); response = Done }

-- TS.ALTER
abbrev pub alter : Limits → State → Key → Change → Outcome
alter limits m key c = alter_at limits m key c (get key m)

-- ---- rules

-- a record with one more rule
abbrev pub with_rule : Key → Aggregator → Grid → Record → Record
with_rule dest agg grid d = record d {
  born = d.born + 1;
  rules = d.rules ++ record { dest = dest; agg = agg; grid = grid; made = d.born + 1; top = None; seen = [] } ∷ [];
}

-- whether the list has a rule
abbrev pub has_rules : List Rule → Bool
has_rules [] = false
has_rules (r ∷ rs) = true

-- the state after TS.CREATERULE
abbrev pub ruled : (source dest : Key) → Aggregator → Grid → State → State
ruled source dest agg grid m = change source (with_rule dest agg grid) m

-- TS.CREATERULE on the records at two keys
abbrev pub create_rule_at : Limits → State → (source dest : Key) → Aggregator → Grid → Option Record → Option Record → Outcome
create_rule_at limits m source dest agg grid None other = refused m NoKey
create_rule_at limits m source dest agg grid (Some s) None = refused m NoKey
create_rule_at limits m source dest agg grid (Some s) (Some d) =
    if is_some (link_to m source) then refused m SourceIsDest
    else (if has_rules d.rules then refused m DestIsSource
    else (if is_some (link_to m dest) then refused m DestHasSource
    else (if nat_le limits.born s.born then refused m RulesSpent
    else (if nat_le limits.rules (length s.rules) then refused m RulesFull
    else record { state = ruled source dest agg grid m; response = Done }))))

-- TS.CREATERULE
abbrev pub create_rule : Limits → State → (source dest : Key) → Aggregator → Grid → Outcome
create_rule limits m source dest agg grid =
    if same source dest then refused m SameKey
    else create_rule_at limits m source dest agg grid (get source m) (get dest m)

-- TS.DELETERULE on the record at the source
abbrev pub delete_rule_at : State → (source dest : Key) → Option Record → Outcome
delete_rule_at m source dest None = refused m NoKey
delete_rule_at m source dest (Some d) =
    if is_some (rule_to dest d.rules) then record { state = without_rule source dest m; response = Done } else refused m NoRule

-- TS.DELETERULE
abbrev pub delete_rule : State → (source dest : Key) → Outcome
delete_rule m source dest = delete_rule_at m source dest (get source m)

-- ---- DEL and EXISTS

-- DEL: removes the keys in order and counts those that existed
abbrev pub drop_keys : State → (so_far : ℕ) → List Key → Outcome
drop_keys m so_far [] = answer_only m (Count so_far)
drop_keys m so_far (k ∷ ks) =
    let there : Bool = is_some (get k m) in
    drop_keys (if there then dropped k m else m) (if there then so_far + 1 else so_far) ks

-- EXISTS: how many of the words are existing keys
abbrev pub count_there : State → List Key → ℕ
count_there m [] = 0
count_there m (k ∷ ks) = if is_some (get k m) then suc (count_there m ks) else count_there m ks
