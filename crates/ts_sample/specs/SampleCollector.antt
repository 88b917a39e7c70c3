-- Collected samples.
use Rattle.std.specs.Prelude.{ℕ, ◌-◌, List, [], ◌∷◌, ◌++◌}
use Rattle.ts_spec.specs.Sample.{Point}

-- the samples that a collector has, and its capacity for more
pub record CollectedSamples : Type 0 where
  -- the samples so far
  pub list : List Point
  -- how many more it can receive
  pub room : ℕ

-- the collector after one more sample
abbrev pub with_one_more : CollectedSamples → Point → CollectedSamples
with_one_more g p = record { list = g.list ++ p ∷ []; room = g.room - 1 }
