-- What a visitor counts of the samples that a deletion leaves.
use Rattle.std.specs.Prelude.{ℕ, ◌+◌, ◌-◌, ◌^◌, ◌≤◌, min}
use Rattle.ts_spec.specs.Sample.{Point}
use Rattle.ts_agg.specs.Counted.{Counting, counted_one, lowered}

-- the count so far, and a rule count at or after which every sample so far was written
pub record CountingLeft : Type 0 where
  pub counting : Counting
  pub least : ℕ

-- after one more sample
abbrev pub with_left : CountingLeft → Point → CountingLeft
with_left c p = record { counting = counted_one c.counting p; least = min c.least p.made }

-- each sample uses at most one unit of the remaining capacity
pub lowered_left : (c : CountingLeft) (p : Point) → 10 ^ 14 - c.counting.running.count ≤ 10 ^ 14 - (with_left c p).counting.running.count + 1
lowered_left c p = lowered c.counting p
