-- Rows of consecutive buckets, with the gaps filled.
use Rattle.std.specs.Prelude.{◌≡◌, ℕ, zero, suc, ◌<◌, nat_lt, if◌then◌else◌, ⊤, List, [], ◌∷◌, ◌++◌, drop, Option, None, Some, option_map}
use Rattle.ts_spec.specs.declared.bucket.Aggregator.{Aggregator}
use Rattle.ts_spec.specs.declared.bucket.Aggregator.TheVariants.{Last}
use Rattle.ts_spec.specs.declared.bucket.Stamp.TheVariants.{Low}
use Rattle.ts_spec.specs.Bucket.{stamp}
use Rattle.ts_spec.specs.Command.{Buckets}
use Rattle.ts_spec.specs.Answer.{Cell, Row}
use Rattle.ts_range.specs.declared.fill_plan.FillPlan as rust
use Rattle.ts_range.specs.declared.fill_plan.Place.{Place}
use Rattle.ts_range.specs.Query.{buckets_of, cell_of}
use Rattle.ts_range.specs.Starts.{starts_of}

-- the value of empty buckets after a bucket with this value: that value for LAST, else the same as before
abbrev pub fill_value_after : Aggregator → (said value : Cell) → Cell
fill_value_after Last said value = value
fill_value_after other said value = said

-- the same buckets, whose rows show their starts
abbrev pub begun : Buckets → Buckets
begun bs = record bs { stamp = Low }

-- the row of the bucket that begins at b
abbrev pub row_at : Buckets → ℕ → Cell → Row
row_at bs b cell = record { time = stamp bs.grid b bs.stamp; value = cell }

-- One row for each start: the given row for it, or else that of an empty bucket. Given rows have starts as their times,
-- in ascending order. Until a row is given, the first empty bucket has the value `now` and the others `later`.
abbrev pub filled : Buckets → (now later : Cell) → (starts : List ℕ) → List Row → List Row
filled bs now later [] rows = []
filled bs now later (b ∷ starts) [] = row_at bs b now ∷ filled bs later later starts []
filled bs now later (b ∷ starts) (r ∷ rows) =
    if nat_lt b r.time then row_at bs b now ∷ filled bs later later starts (r ∷ rows)
    else row_at bs b r.value ∷ filled bs (fill_value_after bs.agg later r.value) (fill_value_after bs.agg later r.value) starts rows

-- ---- filling gaps while rows arrive

-- the buckets, their starts, and the value of empty ones before the first given row: for the first bucket, and for the
-- others
pub record FillPlan : Type 0 where
  pub buckets : Buckets
  pub starts : List ℕ
  pub first : Cell
  pub others : Cell

-- the definition of a `FillPlan` of the program
abbrev pub fill_plan_of : rust.FillPlan → FillPlan
fill_plan_of f = record { buckets = buckets_of f.buckets; starts = starts_of f.starts; first = cell_of f.first; others = cell_of f.others }

-- the rows with all gaps filled, where these are all given rows
abbrev pub rows_with_gaps_filled : FillPlan → List Row → List Row
rows_with_gaps_filled f rows = filled f.buckets f.first f.others f.starts rows

-- the value of empty buckets: the last value, if there is one
abbrev pub value_or_fill : Cell → Option Cell → Cell
value_or_fill others None = others
value_or_fill others (Some value) = value

-- the value of the bucket after `told` others, if it is empty
abbrev pub fill_value_at : ℕ → (first said : Cell) → Cell
fill_value_at zero first said = first
fill_value_at (suc told) first said = said

-- the rows from this point on, where these given rows are still to come
abbrev pub filled_from : FillPlan → Place → List Row → List Row
filled_from f place coming =
    filled f.buckets (fill_value_at place.told f.first (value_or_fill f.others (option_map cell_of place.last)))
    (value_or_fill f.others (option_map cell_of place.last)) (drop place.told f.starts) coming

-- the sink has the rows up to this point; `all` are all given rows, and `coming` those still to come
pub record IsFilled (has : List Row → Type 0) (f : FillPlan) (place : Place) (all coming : List Row) : Type 0 where
  pub done : List Row
  pub taken : has done
  pub rest : done ++ filled_from f place coming ≡ rows_with_gaps_filled f all

-- the next given row, if any, is after this start
abbrev pub IsBefore : ℕ → List Row → Type 0
IsBefore b [] = ⊤
IsBefore b (r ∷ rows) = b < r.time
