-- Aggregation: the summary of a list of values, and what each aggregator computes from it.
use Rattle.std.specs.Prelude.{ℕ, zero, suc, ◌+◌, ◌*◌, ℤ, pos, ◌+ℤ◌, ◌-ℤ◌, int_lt, if◌then◌else◌, List, fold}
use Rattle.ts_spec.specs.declared.bucket.Aggregator.{Aggregator}
use Rattle.ts_spec.specs.declared.bucket.Aggregator.TheVariants.{Avg, Sum, Min, Max, Range, Count, First, Last}
use Rattle.ts_spec.specs.declared.bucket.Reducer.{Reducer}
use Rattle.ts_spec.specs.declared.bucket.Reducer.TheVariants as reducer
use Rattle.ts_spec.specs.Sample.{Point}
use Rattle.ts_spec.specs.Value.{div_round, clamp}

-- the count, sum, least, greatest, first and last of a list of values, in millionths
pub record Summary : Type 0 where
  pub count : ℕ
  pub sum : ℤ
  pub least : ℤ
  pub greatest : ℤ
  pub first : ℤ
  pub last : ℤ

-- the summary of the empty list
abbrev pub nothing : Summary
nothing = record { count = 0; sum = pos 0; least = pos 0; greatest = pos 0; first = pos 0; last = pos 0 }

-- `new` if no value came before (the count is 0), else `old`
abbrev pub old_unless_first : ℕ → ℤ → ℤ → ℤ
old_unless_first zero old new = new
old_unless_first (suc n) old new = old

-- the summary after appending one sample
abbrev pub push : Summary → Point → Summary
push s p = record {
  count = s.count + 1;
  sum = s.sum +ℤ p.value;
  least = old_unless_first s.count (if int_lt p.value s.least then p.value else s.least) p.value;
  greatest = old_unless_first s.count (if int_lt s.greatest p.value then p.value else s.greatest) p.value;
  first = old_unless_first s.count s.first p.value;
  last = p.value;
}

-- the summary of the values of a list
abbrev pub summary : List Point → Summary
summary ps = fold push nothing ps

-- the result of an aggregator, in millionths
abbrev pub result_of : Aggregator → Summary → ℤ
result_of Avg s = div_round s.sum s.count
result_of Sum s = clamp s.sum
result_of Min s = s.least
result_of Max s = s.greatest
result_of Range s = clamp (s.greatest -ℤ s.least)
result_of Count s = pos (s.count * 1000000)
result_of First s = s.first
result_of Last s = s.last

-- the aggregate of a non-empty list, in millionths
abbrev pub aggregate : Aggregator → List Point → ℤ
aggregate a ps = result_of a (summary ps)

-- the aggregator with the same result as a reducer
abbrev pub aggregator_of : Reducer → Aggregator
aggregator_of reducer.Avg = Avg
aggregator_of reducer.Sum = Sum
aggregator_of reducer.Min = Min
aggregator_of reducer.Max = Max
aggregator_of reducer.Range = Range
aggregator_of reducer.Count = Count
