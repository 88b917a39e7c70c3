-- The state of a single aggregator, and the lists that it describes.
use Rattle.std.specs.Prelude.{◌≡◌, ℕ, ◌<◌, List, length}
use Rattle.ts_spec.specs.declared.bucket.Aggregator.{Aggregator}
use Rattle.ts_spec.specs.declared.bucket.Aggregator.TheVariants as agg
use Rattle.ts_spec.specs.Sample.{Point}
use Rattle.ts_spec.specs.Aggregate.{Summary, summary}
use Rattle.ts_agg.specs.declared.tally.Tally.{Tally}
use Rattle.ts_agg.specs.declared.tally.Tally.TheVariants.{Avg, Sum, Min, Max, Range, Count, First, Last}

-- the state of an aggregator, from the summary of a list
abbrev pub tally_of : Aggregator → Summary → Tally
tally_of agg.Avg s = Avg (record { count = s.count; sum = s.sum })
tally_of agg.Sum s = Sum (record { count = s.count; sum = s.sum })
tally_of agg.Min s = Min s.least
tally_of agg.Max s = Max s.greatest
tally_of agg.Range s = Range s.least s.greatest
tally_of agg.Count s = Count s.count
tally_of agg.First s = First s.first
tally_of agg.Last s = Last s.last

-- it is the state of the aggregator over this non-empty list
pub record IsTallyOf (a : Aggregator) (t : Tally) (ps : List Point) : Type 0 where
  pub some : 0 < length ps
  pub kept : t ≡ tally_of a (summary ps)

-- how many samples it has counted, or 0 if it does not count them
abbrev pub counted : Tally → ℕ
counted (Avg total) = total.count
counted (Sum total) = total.count
counted (Count amount) = amount
counted other = 0
