-- What a visitor counts when it merges a written sample into the samples it visits.
use Rattle.std.specs.Prelude.{ℕ, ◌+◌, ◌-◌, ◌^◌, ◌≤◌, min, nat_lt, if◌then◌else◌, Option, None, Some}
use Rattle.ts_spec.specs.Sample.{Point}
use Rattle.ts_spec.specs.Aggregate.{Summary}
use Rattle.ts_sample.specs.Visit.{visited}
use Rattle.ts_agg.specs.Counted.{Counting, counted_one, lowered}
use Rattle.ts_rules.specs.Rules.{one_of}

-- the count so far, and the sample that waits for those before it
pub record CountingWith : Type 0 where
  pub counting : Counting
  pub held : Option Point
  -- every sample so far, including the written one, was written at this rule count or later
  pub least : ℕ

-- the earlier of a sample and the waiting one, or the waiting one if the times are equal
abbrev pub earlier : Option Point → Point → Point
earlier None p = p
earlier (Some h) p = if nat_lt p.time h.time then p else h

-- the later of the two, or none if the times are equal
abbrev pub later : Option Point → Point → Option Point
later None p = None
later (Some h) p = if nat_lt p.time h.time then Some h else (if nat_lt h.time p.time then Some p else None)

-- after one more sample: counts the earlier one and holds the later one
abbrev pub with_next : CountingWith → Point → CountingWith
with_next c p = record { counting = counted_one c.counting (earlier c.held p); held = later c.held p; least = min c.least p.made }

-- the final count, with the waiting sample
abbrev pub whole : CountingWith → Summary
whole c = (visited counted_one c.counting (one_of c.held)).running

-- each sample uses at most one unit of the remaining capacity
pub lowered_with : (c : CountingWith) (p : Point) → 10 ^ 14 - c.counting.running.count ≤ 10 ^ 14 - (with_next c p).counting.running.count + 1
lowered_with c p = lowered c.counting (earlier c.held p)
