-- The bounds of a sample.
use Rattle.std.specs.Prelude.{◌≤◌, ◌<◌, ◌^◌, unsigned_abs}
use Rattle.ts_spec.specs.Sample.{Point, MAX_TIME}
use Rattle.ts_spec.specs.Value.{bound}

-- time, value and number of rules are within their bounds
pub record IsInBounds (p : Point) : Type 0 where
  pub time : p.time ≤ MAX_TIME
  pub value : unsigned_abs p.value ≤ bound
  pub made : p.made < 2 ^ 32
