-- Queries and rows of the program as values of the specification.
use Rattle.std.specs.Prelude.{ℤ, option_map}
use Rattle.ts_spec.specs.Command as spec
use Rattle.ts_spec.specs.Answer as answer
use Rattle.ts_sample.specs.declared.sample.Cell.{Cell}
use Rattle.ts_sample.specs.declared.sample.Cell.TheVariants as cell
use Rattle.ts_range.specs.declared.query.Buckets.{Buckets}
use Rattle.ts_range.specs.declared.query.Query.{Query}
use Rattle.ts_range.specs.declared.query.Row.{Row}

-- a range of values, both bounds included
abbrev pub span_of : ℤ × ℤ → spec.Span
span_of values = record { least = values.0; greatest = values.1 }

-- the buckets of a query
abbrev pub buckets_of : Buckets → spec.Buckets
buckets_of bs = record { grid = bs.grid; agg = bs.agg; stamp = bs.stamp; empty = bs.empty }

-- a query over one series
abbrev pub query_of : Query → spec.Query
query_of q = record {
  from = q.from;
  to = q.to;
  times = option_map (λ times. times.items) q.times;
  values = option_map span_of q.values;
  count = q.count;
  buckets = option_map buckets_of q.buckets;
  reverse = q.reverse;
}

-- a value, or NaN
abbrev pub cell_of : Cell → answer.Cell
cell_of (cell.Number value) = answer.Number value
cell_of cell.Nan = answer.Nan

-- a row
abbrev pub row_of : Row → answer.Row
row_of row = record { time = row.time; value = cell_of row.value }
