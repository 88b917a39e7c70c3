-- When a checkpoint is valid, part by part.
use Rattle.std.specs.Prelude.{◌≡◌, ℕ, ◌<◌, ◌≤◌, false, ⊤, List, [], ◌∷◌, length, Option, Some, None}
use Rattle.ts_spec.specs.declared.limits.Limits.{Limits}
use Rattle.ts_spec.specs.Sample.{Point, IsAscending}
use Rattle.ts_spec.specs.Bucket.{start}
use Rattle.ts_spec.specs.Aggregate.{nothing}
use Rattle.ts_spec.specs.Key.{same}
use Rattle.ts_spec.specs.Keyed.{none, get, count_keys}
use Rattle.ts_spec.specs.State.{edge_of}
use Rattle.ts_spec.specs.Valid.{Every, IsUpTo}
use Rattle.ts_spec.specs.StoredSeries.{StoredRule, StoredSeries, StoredKeys}
use Rattle.ts_restore.specs.Checkpoint.{SeriesPart, RulePart, Checkpoint}
use Rattle.ts_restore.specs.Restored.{keys_with_series, keys_with_all_series, keys_with_rule, top_at}
use Rattle.ts_restore.specs.Summaries.{IsSummary}

-- a sample that a series may show
pub record IsSampleOf (p : SeriesPart) (s : Point) : Type 0 where
  pub from_edge : edge_of p.options.retention p.high ≤ s.time
  pub to_high : IsUpTo p.high s.time
  pub made : s.made ≤ p.born

-- a valid series by itself
pub record IsSeries (limits : Limits) (p : SeriesPart) : Type 0 where
  pub labels : length p.labels ≤ limits.labels
  pub born : p.born ≤ limits.born
  pub samples : length p.list ≤ limits.samples
  pub ascending : IsAscending p.list
  pub list : Every (IsSampleOf p) p.list

-- a valid series whose key is new, and there is room for it
pub record IsNewSeries (limits : Limits) (keys : StoredKeys) (p : SeriesPart) : Type 0 where
  pub series : IsSeries limits p
  pub missing : get p.key keys ≡ None
  pub room : count_keys keys < limits.keys

-- the open bucket of a rule that starts at b: the samples written since the rule was created are in or before it
pub record IsBucketAt (s : StoredSeries) (q : StoredRule) (b : ℕ) : Type 0 where
  pub running : IsSummary q.running
  pub same : start q.grid (top_at q b s.list) ≡ b
  pub high : IsUpTo s.high (top_at q b s.list)

-- a rule without an open bucket counts nothing, and no sample was written since it was created
pub record IsUnwritten (s : StoredSeries) (q : StoredRule) : Type 0 where
  pub running : q.running ≡ nothing
  pub list : Every (λ p. p.made < q.made) s.list

-- the open bucket of a rule, if it has one
abbrev pub IsBucket : StoredSeries → StoredRule → Option ℕ → Type 0
IsBucket s q None = IsUnwritten s q
IsBucket s q (Some b) = IsBucketAt s q b

-- a valid rule of this source by itself
pub record IsRule (s : StoredSeries) (q : StoredRule) : Type 0 where
  pub made_from : 1 ≤ q.made
  pub made_to : q.made ≤ s.born
  pub duration : 1 ≤ q.grid.duration
  pub bucket : IsBucket s q q.current

-- all of these rules were created before this one
abbrev pub AreMadeBefore : ℕ → List StoredRule → Type 0
AreMadeBefore n [] = ⊤
AreMadeBefore n (q ∷ qs) = (q.made < n) × AreMadeBefore n qs

-- A valid rule between two other series. Its source is no destination and has room for it; its destination has no
-- rules and no other source.
pub record IsNewRule (limits : Limits) (keys : StoredKeys) (p : RulePart) : Type 0 where
  pub other : same p.source p.rule.dest ≡ false
  pub source : StoredSeries
  pub source_there : get p.source keys ≡ Some source
  pub dest : StoredSeries
  pub dest_there : get p.rule.dest keys ≡ Some dest
  pub source_free : source.source ≡ None
  pub dest_free : dest.source ≡ None
  pub dest_rules : dest.rules ≡ []
  pub rules : length source.rules < limits.rules
  pub after : AreMadeBefore p.rule.made source.rules
  pub rule : IsRule source p.rule

-- each of these series is new after those before it
abbrev pub AreNewSeries : Limits → StoredKeys → List SeriesPart → Type 0
AreNewSeries limits keys [] = ⊤
AreNewSeries limits keys (p ∷ ps) = IsNewSeries limits keys p × AreNewSeries limits (keys_with_series p keys) ps

-- each of these rules is new after those before it
abbrev pub AreNewRules : Limits → StoredKeys → List RulePart → Type 0
AreNewRules limits keys [] = ⊤
AreNewRules limits keys (p ∷ ps) = IsNewRule limits keys p × AreNewRules limits (keys_with_rule p keys) ps

-- a valid checkpoint
pub record IsCheckpoint (limits : Limits) (c : Checkpoint) : Type 0 where
  pub series : AreNewSeries limits none c.series
  pub rules : AreNewRules limits (keys_with_all_series c.series none) c.rules
