-- What a rule counts, as the state of a visitor.
use Rattle.std.specs.Prelude.{ℕ, ◌+◌, ◌-◌, ◌^◌, ◌≤◌, Bool, true, false, nat_le, if◌then◌else◌}
use Rattle.std.proofs.Common.{arith}
use Rattle.ts_spec.specs.Sample.{Point}
use Rattle.ts_spec.specs.Aggregate.{Summary, push}

-- It counts samples with this `made` or a greater one. `running` is the summary of those so far.
pub record Counting : Type 0 where
  pub made : ℕ
  pub running : Summary

-- after one more sample
abbrev pub counted_one : Counting → Point → Counting
counted_one c p = record c { running = if nat_le c.made p.made then push c.running p else c.running }

-- each sample lowers the capacity by at most one
lower_one : (s : Summary) (p : Point) (test : Bool) → 10 ^ 14 - s.count ≤ 10 ^ 14 - (if test then push s p else s).count + 1
lower_one s p true = omega arith
lower_one s p false = omega arith

-- each sample lowers the capacity of the visitor by at most one
pub lowered : (c : Counting) (p : Point) → 10 ^ 14 - c.running.count ≤ 10 ^ 14 - (counted_one c p).running.count + 1
lowered c p = lower_one c.running p (nat_le c.made p.made)
