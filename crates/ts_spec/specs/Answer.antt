-- The rows that a range query returns, computed from all samples of the series.
use Rattle.std.specs.Prelude.{ℕ, ◌/◌, max, min, ℤ, pos, ◌-ℤ◌, int_le, nat_abs, Bool, true, false, ◌&&◌, ◌||◌, ◌==◌, nat_lt, nat_le, if◌then◌else◌, List, [], ◌∷◌, map, filter, reverse, take, length, Option, Some, None}
use Rattle.ts_spec.specs.declared.bucket.Aggregator.{Aggregator}
use Rattle.ts_spec.specs.declared.bucket.Aggregator.TheVariants.{Sum, Count, Last}
use Rattle.ts_spec.specs.Sample.{Point, at_times, between, first_of, last_of}
use Rattle.ts_spec.specs.Bucket.{Grid, raw, stamp, members, starts, starts_from}
use Rattle.ts_spec.specs.Aggregate.{aggregate}
use Rattle.ts_spec.specs.Command.{Query, Buckets, Span}

-- the value of a row, or NaN
pub data Cell : Type 0 where
  Number : ℤ → Cell
  Nan : Cell

-- a row of a reply: a time in milliseconds and a value
pub record Row : Type 0 where
  pub time : ℕ
  pub value : Cell

-- the row of a raw sample
abbrev pub row_of : Point → Row
row_of p = record { time = p.time; value = Number p.value }

-- whether the list contains this time
abbrev pub contains_time : List ℕ → ℕ → Bool
contains_time [] t = false
contains_time (u ∷ us) t = (u == t) || contains_time us t

-- whether FILTER_BY_TS lets this time pass; without the option every time passes
abbrev pub passes_time_filter : Option (List ℕ) → ℕ → Bool
passes_time_filter None t = true
passes_time_filter (Some times) t = contains_time times t

-- whether FILTER_BY_VALUE lets this value pass; without the option every value passes
abbrev pub passes_value_filter : Option Span → ℤ → Bool
passes_value_filter None v = true
passes_value_filter (Some span) v = int_le span.least v && int_le v span.greatest

-- whether a sample passes both filters
abbrev pub passes_filters : Query → Point → Bool
passes_filters q p = passes_time_filter q.times p.time && passes_value_filter q.values p.value

-- the samples of the interval that pass both filters
abbrev pub selected : Query → List Point → List Point
selected q asked = filter (passes_filters q) (between q.from q.to asked)

-- the value of the last sample, or NaN if there is none
abbrev pub last_value : Option Point → Cell
last_value None = Nan
last_value (Some p) = Number p.value

-- the value of an empty bucket that starts at b: 0 for sum and count, the last value before b for last, else NaN
abbrev pub empty_cell : Aggregator → ℕ → List Point → Cell
empty_cell Sum b asked = Number (pos 0)
empty_cell Count b asked = Number (pos 0)
empty_cell Last b asked = last_value (last_of (at_times (λ t. nat_lt t b) asked))
empty_cell other b asked = Nan

-- the value of the bucket that starts at b and has these samples
abbrev pub cell_of : Aggregator → ℕ → (asked of_bucket : List Point) → Cell
cell_of a b asked [] = empty_cell a b asked
cell_of a b asked (p ∷ ps) = Number (aggregate a (p ∷ ps))

-- the row of the bucket that starts at b
abbrev pub bucket_row : Buckets → (asked chosen : List Point) → ℕ → Row
bucket_row bs asked chosen b = record { time = stamp bs.grid b bs.stamp; value = cell_of bs.agg b asked (members bs.grid b chosen) }

-- the starts of all buckets from the one of `lo` to the one of `hi`
abbrev pub starts_between : Grid → (lo hi : ℕ) → List ℕ
starts_between g lo hi = if nat_le lo hi then starts_from g (raw g lo) (nat_abs (raw g hi -ℤ raw g lo) / g.duration) else []

-- with EMPTY, the starts of all buckets between the first and the last sample of the series, within the interval
abbrev pub starts_with_empty : Grid → (from to : ℕ) → Option Point → Option Point → List ℕ
starts_with_empty g from to None last = []
starts_with_empty g from to (Some p) None = []
starts_with_empty g from to (Some p) (Some q) = starts_between g (max from p.time) (min to q.time)

-- the starts of the buckets that get a row: those with samples, or with EMPTY those of `starts_with_empty`
abbrev pub starts_of_rows : Query → Buckets → (asked chosen : List Point) → List ℕ
starts_of_rows q bs asked chosen =
    if bs.empty then starts_with_empty bs.grid q.from q.to (first_of asked) (last_of asked) else starts bs.grid chosen

-- all rows, oldest first, without a limit
abbrev pub rows_of : Option Buckets → Query → List Point → List Row
rows_of None q asked = map row_of (selected q asked)
rows_of (Some bs) q asked = map (bucket_row bs asked (selected q asked)) (starts_of_rows q bs asked (selected q asked))

-- the rows, newest first if `reverse` is set
abbrev pub in_requested_order : Bool → List Row → List Row
in_requested_order true rows = reverse rows
in_requested_order false rows = rows

-- at most `count` rows from the front
abbrev pub limit_rows : Option ℕ → List Row → List Row
limit_rows None rows = rows
limit_rows (Some n) rows = take n rows

-- the rows of a query: in the requested order, then cut to COUNT
abbrev pub rows : Query → List Point → List Row
rows q asked = limit_rows q.count (in_requested_order q.reverse (rows_of q.buckets q asked))

-- whether EMPTY is set
abbrev pub includes_empty : Option Buckets → Bool
includes_empty None = false
includes_empty (Some bs) = bs.empty

-- the rows of a query, or `None` if EMPTY is set and they exceed the limit
abbrev pub answer : (limit : ℕ) → Query → List Point → Option (List Row)
answer limit q asked = if includes_empty q.buckets && nat_lt limit (length (rows q asked)) then None else Some (rows q asked)
