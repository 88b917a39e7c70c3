-- The capacity of the buffers for samples.
use Rattle.std.specs.Prelude.{◌≡◌, ℕ, ◌≤◌, if◌then◌else◌, [], length}
use Rattle.ts_spec.specs.Sample.{between}
use Rattle.ts_spec.specs.Bucket.{start}
use Rattle.ts_spec.specs.Rules.{is_past}
use Rattle.ts_sample.specs.SampleCollector.{CollectedSamples}
use Rattle.ts_series.specs.History.{History, list_of}
use Rattle.ts_rules.specs.declared.rule.Rule.{Rule}

-- an empty buffer with capacity for this many samples
pub record HasCapacity (count : ℕ) (g : CollectedSamples) : Type 0 where
  pub empty : g.list ≡ []
  pub room : count ≤ g.room

-- the number of the destination's samples from the first to the last bucket of an interval, or 0 if the first is not
-- closed
abbrev pub count_touched : Rule → (from to : ℕ) → (dest : History) → ℕ
count_touched r from to dest = if is_past r.current (start r.grid from) then length (between (start r.grid from) (start r.grid to) (list_of dest)) else 0
