-- The values of empty buckets.
use Rattle.std.specs.Prelude.{ℕ, pos, Bool, true, false, Option}
use Rattle.std.specs.Option.{option_or}
use Rattle.ts_spec.specs.declared.bucket.Aggregator.{Aggregator}
use Rattle.ts_spec.specs.declared.bucket.Aggregator.TheVariants.{Sum, Count, Last}
use Rattle.ts_spec.specs.Sample.{Point}
use Rattle.ts_spec.specs.Answer.{Cell, Number, Nan, last_value}
use Rattle.ts_range.specs.declared.query.Asked.{Asked}
use Rattle.ts_range.specs.AskedSamples.{last_before}

-- the last sample before a bucket, from the collected samples; `first` says that it is the first bucket of the answer
abbrev pub known_before : (first : Bool) → ℕ → Asked → Option Point
known_before true b asked = asked.ahead
known_before false b asked = option_or (last_before b asked.rows.items) asked.prior

-- the value of an empty bucket whose last earlier sample is `before`
abbrev pub empty_cell_of : Aggregator → Option Point → Cell
empty_cell_of Sum before = Number (pos 0)
empty_cell_of Count before = Number (pos 0)
empty_cell_of Last before = last_value before
empty_cell_of other before = Nan
