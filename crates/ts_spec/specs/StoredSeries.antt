-- What a database stores of a state: the samples that each key shows, and for each rule the summary of its open
-- bucket. It stores nothing else.
use Rattle.std.specs.Prelude.{ℕ, List, map, Option, Some, None, option_map}
use Rattle.ts_spec.specs.declared.series.Options.{Options}
use Rattle.ts_spec.specs.declared.bucket.Aggregator.{Aggregator}
use Rattle.ts_spec.specs.Sample.{Point}
use Rattle.ts_spec.specs.Bucket.{Grid, members}
use Rattle.ts_spec.specs.Aggregate.{Summary, nothing, summary}
use Rattle.ts_spec.specs.Key.{Key}
use Rattle.ts_spec.specs.Keyed.{Keyed, each}
use Rattle.ts_spec.specs.State.{Label, Rule, Record, State, Link, link_to}
use Rattle.ts_spec.specs.ShownSamples.{open_of, shown_by}

-- A stored rule. `current` is the start of its open bucket, and `running` the summary of what it counts there.
pub record StoredRule : Type 0 where
  pub dest : Key
  pub agg : Aggregator
  pub grid : Grid
  pub made : ℕ
  pub current : Option ℕ
  pub running : Summary

-- A stored series. `list` has the samples that the key shows. `high`, `born` and `rules` are as in a record. `source`
-- is the key whose rule writes to this one.
pub record StoredSeries : Type 0 where
  pub options : Options
  pub labels : List Label
  pub list : List Point
  pub high : Option ℕ
  pub born : ℕ
  pub rules : List StoredRule
  pub source : Option Key

-- all stored series by key
abbrev pub StoredKeys : Type 0
StoredKeys = Keyed StoredSeries

-- the summary of what a rule counts in the bucket that starts at b
abbrev pub summary_at : Rule → Option ℕ → Summary
summary_at r None = nothing
summary_at r (Some b) = summary (members r.grid b r.seen)

-- the stored form of a rule
abbrev pub stored_rule : Rule → StoredRule
stored_rule r = record { dest = r.dest; agg = r.agg; grid = r.grid; made = r.made; current = open_of r; running = summary_at r (open_of r) }

-- the stored form of a record, with the rule that writes to it
abbrev pub stored_record : Option Link → Record → StoredSeries
stored_record l d = record {
  options = d.options;
  labels = d.labels;
  list = shown_by (option_map (λ l. l.rule) l) d;
  high = d.high;
  born = d.born;
  rules = map stored_rule d.rules;
  source = option_map (λ l. l.source) l;
}

-- the stored form of a state
abbrev pub kept : State → StoredKeys
kept m = each (λ k d. stored_record (link_to m k) d) m
