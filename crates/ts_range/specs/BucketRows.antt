-- The rows of buckets.
use Rattle.std.specs.Prelude.{ℕ, List, map}
use Rattle.ts_spec.specs.Sample.{Point}
use Rattle.ts_spec.specs.Bucket.{starts, stamp}
use Rattle.ts_spec.specs.Aggregate.{aggregate}
use Rattle.ts_spec.specs.Command.{Buckets}
use Rattle.ts_spec.specs.Answer.{Row, Number, bucket_row}

-- the row of the bucket that begins at b and has these samples
abbrev pub row_with : Buckets → ℕ → List Point → Row
row_with bs b ps = record { time = stamp bs.grid b bs.stamp; value = Number (aggregate bs.agg ps) }

-- the rows of the buckets of these samples
abbrev pub bucket_rows : Buckets → (asked chosen : List Point) → List Row
bucket_rows bs asked chosen = map (bucket_row bs asked chosen) (starts bs.grid chosen)
