-- What a checkpoint says of a database: what the database stores of each series, and then of each rule.
use Rattle.std.specs.Prelude.{ℕ, List, [], ◌∷◌, ◌++◌, map, Option}
use Rattle.ts_spec.specs.declared.series.Options.{Options}
use Rattle.ts_spec.specs.Sample.{Point}
use Rattle.ts_spec.specs.Key.{Key}
use Rattle.ts_spec.specs.Keyed.{Entry}
use Rattle.ts_spec.specs.State.{Label}
use Rattle.ts_spec.specs.StoredSeries.{StoredRule, StoredSeries, StoredKeys}

-- A series, without its rules and its source. `list` has the samples that it shows.
pub record SeriesPart : Type 0 where
  pub key : Key
  pub options : Options
  pub labels : List Label
  pub list : List Point
  pub high : Option ℕ
  pub born : ℕ

-- a rule of this source, with the start and the summary of its open bucket
pub record RulePart : Type 0 where
  pub source : Key
  pub rule : StoredRule

-- a checkpoint: all series, and then all rules
pub record Checkpoint : Type 0 where
  pub series : List SeriesPart
  pub rules : List RulePart

-- ---- the checkpoint of stored data

-- the part of a series
abbrev pub series_part : Entry StoredSeries → SeriesPart
series_part e = record {
  key = e.key;
  options = e.value.options;
  labels = e.value.labels;
  list = e.value.list;
  high = e.value.high;
  born = e.value.born;
}

-- the parts of the rules of a source
abbrev pub parts_from : Key → List StoredRule → List RulePart
parts_from source [] = []
parts_from source (q ∷ qs) = record { source = source; rule = q } ∷ parts_from source qs

-- the parts of all rules, by their sources, in the order of their creation
abbrev pub rule_parts : List (Entry StoredSeries) → List RulePart
rule_parts [] = []
rule_parts (e ∷ es) = parts_from e.key e.value.rules ++ rule_parts es

-- the checkpoint of all stored series, in ascending order of keys
abbrev pub checkpoint_of : StoredKeys → Checkpoint
checkpoint_of keys = record { series = map series_part keys.entries; rules = rule_parts keys.entries }
