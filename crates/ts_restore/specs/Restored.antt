-- What a checkpoint restores to: the stored data, and a state that it represents.
use Rattle.std.specs.Prelude.{ℕ, ◌+◌, ◌-◌, max, nat_le, if◌then◌else◌, List, [], ◌∷◌, ◌++◌, Option, Some, None}
use Rattle.ts_spec.specs.Sample.{Point}
use Rattle.ts_spec.specs.Key.{Key}
use Rattle.ts_spec.specs.Keyed.{none, get, with_key}
use Rattle.ts_spec.specs.State.{Rule, Record, State, empty, change}
use Rattle.ts_spec.specs.StoredSeries.{StoredRule, StoredSeries, StoredKeys}
use Rattle.ts_spec.specs.StoredKeys.{keys_changed}
use Rattle.ts_restore.specs.Checkpoint.{SeriesPart, RulePart, Checkpoint}
use Rattle.ts_restore.specs.Laid.{laid}
use Rattle.ts_restore.specs.Summaries.{values_of}

-- ---- the stored data

-- a restored series, before its rules
abbrev pub bare_series : SeriesPart → StoredSeries
bare_series p = record {
  options = p.options;
  labels = p.labels;
  list = p.list;
  high = p.high;
  born = p.born;
  rules = [];
  source = None;
}

-- all stored series and a restored one
abbrev pub keys_with_series : SeriesPart → StoredKeys → StoredKeys
keys_with_series p keys = with_key p.key (bare_series p) keys

-- a source with one more rule
abbrev pub with_stored_rule : StoredRule → StoredSeries → StoredSeries
with_stored_rule q s = record s { rules = s.rules ++ q ∷ [] }

-- a destination of a rule from this key
abbrev pub sourced : Key → StoredSeries → StoredSeries
sourced source d = record d { source = Some source }

-- all stored series with a restored rule
abbrev pub keys_with_rule : RulePart → StoredKeys → StoredKeys
keys_with_rule p keys =
    keys_changed p.rule.dest (sourced p.source) (keys_changed p.source (with_stored_rule p.rule) keys)

-- all of these series, in order
abbrev pub keys_with_all_series : List SeriesPart → StoredKeys → StoredKeys
keys_with_all_series [] keys = keys
keys_with_all_series (p ∷ ps) keys = keys_with_all_series ps (keys_with_series p keys)

-- all of these rules, in order
abbrev pub keys_with_all_rules : List RulePart → StoredKeys → StoredKeys
keys_with_all_rules [] keys = keys
keys_with_all_rules (p ∷ ps) keys = keys_with_all_rules ps (keys_with_rule p keys)

-- the stored data of a checkpoint
abbrev pub keys_of : Checkpoint → StoredKeys
keys_of c = keys_with_all_rules c.rules (keys_with_all_series c.series none)

-- ---- a state

-- the record of a restored series: what it shows are its own samples
abbrev pub restored_record : SeriesPart → Record
restored_record p = record {
  options = p.options;
  labels = p.labels;
  plain = p.list;
  high = p.high;
  born = p.born;
  rules = [];
}

-- the state with a restored series
abbrev pub with_series : SeriesPart → State → State
with_series p m = with_key p.key (restored_record p) m

-- the time of the last sample with this `made` or a greater one, and at least `low`
abbrev pub last_since : (made low : ℕ) → List Point → ℕ
last_since made low [] = low
last_since made low (p ∷ ps) = max (if nat_le made p.made then p.time else low) (last_since made low ps)

-- The highest time written to the source since a rule was created, as far as the stored data tells. That is the time
-- of the last such sample, or the last time that the counted samples take, one per millisecond from b on.
abbrev pub top_at : StoredRule → (b : ℕ) → List Point → ℕ
top_at q b ps = max (b + q.running.count - 1) (last_since q.made b ps)

-- the same, if there was a sample
abbrev pub top_of : StoredRule → Option ℕ → List Point → Option ℕ
top_of q None ps = None
top_of q (Some b) ps = Some (top_at q b ps)

-- samples with the summary of the open bucket, one per millisecond from its start on
abbrev pub counted_of : StoredRule → Option ℕ → (born : ℕ) → List Point
counted_of q None born = []
counted_of q (Some b) born = laid b born (values_of q.running)

-- a restored rule of this source
abbrev pub restored_rule : StoredRule → Record → Rule
restored_rule q s = record {
  dest = q.dest;
  agg = q.agg;
  grid = q.grid;
  made = q.made;
  top = top_of q q.current s.plain;
  seen = counted_of q q.current s.born;
}

-- a record with one more rule
abbrev pub add_rule : Rule → Record → Record
add_rule r d = record d { rules = d.rules ++ r ∷ [] }

-- the state with one more rule of a source
abbrev pub rule_added : Key → Rule → State → State
rule_added source r m = change source (add_rule r) m

-- the state with a restored rule of the record at its source
abbrev pub restored_at : RulePart → Option Record → State → State
restored_at p None m = m
restored_at p (Some s) m = rule_added p.source (restored_rule p.rule s) m

-- the state with a restored rule
abbrev pub with_restored_rule : RulePart → State → State
with_restored_rule p m = restored_at p (get p.source m) m

-- all of these series, in order
abbrev pub with_all_series : List SeriesPart → State → State
with_all_series [] m = m
with_all_series (p ∷ ps) m = with_all_series ps (with_series p m)

-- all of these rules, in order
abbrev pub with_all_rules : List RulePart → State → State
with_all_rules [] m = m
with_all_rules (p ∷ ps) m = with_all_rules ps (with_restored_rule p m)

-- the state that a checkpoint restores to
abbrev pub state_of : Checkpoint → State
state_of c = with_all_rules c.rules (with_all_series c.series empty)
