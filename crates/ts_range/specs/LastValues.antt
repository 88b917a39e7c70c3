-- Rows of buckets that show the last value of their samples.
use Rattle.std.specs.Prelude.{◌≡◌, ℕ, ◌≤◌, ◌<◌, ℤ, Bool, true, false, ◌==◌, ◌&&◌, List, [], ◌∷◌, ◌++◌, filter, map, take, length, Option, Some, option_map, slice_get}
use Rattle.std.specs.List.{All}
use Rattle.ts_spec.specs.Sample.{Point, IsAscending, last_of}
use Rattle.ts_spec.specs.Bucket.{start, members}
use Rattle.ts_spec.specs.Answer.{Cell, Number, Row, starts_between, passes_time_filter, passes_value_filter}
use Rattle.ts_range.specs.declared.fill_plan.FillPlan as rust
use Rattle.ts_range.specs.declared.filters.Filters.{Filters}
use Rattle.ts_range.specs.declared.last_values.Current.{Current}
use Rattle.ts_range.specs.FillPlan.{FillPlan, fill_plan_of, row_at, value_or_fill}
use Rattle.ts_range.specs.Query.{cell_of, span_of}
use Rattle.ts_range.specs.AskedSamples.{last_before}

-- the buckets and the values of empty ones before any sample, the times and values that pass, and the samples received
-- so far
pub record LastValues : Type 0 where
  pub filling : FillPlan
  pub times : Option (List ℕ)
  pub values : Option (ℤ × ℤ)
  pub seen : List Point

-- whether a sample passes the filters
abbrev pub counts : LastValues → Point → Bool
counts v p = passes_time_filter v.times p.time && passes_value_filter (option_map span_of v.values) p.value

-- the state for these buckets and filters after these samples
abbrev pub values_of : Filters → rust.FillPlan → List Point → LastValues
values_of filters filling seen = record {
  filling = fill_plan_of filling;
  times = option_map (λ times. times.items) filters.times;
  values = filters.values;
  seen = seen;
}

-- after one more sample
abbrev pub with_one : LastValues → Point → LastValues
with_one v p = record v { seen = v.seen ++ p ∷ [] }

-- the value of a sample, if there is one
abbrev pub value_of : Option Point → Option Cell
value_of o = option_map (λ p. Number p.value) o

-- whether b is the first of these starts
abbrev pub is_first : List ℕ → ℕ → Bool
is_first [] b = false
is_first (c ∷ starts) b = b == c

-- the value of the bucket at b if it is empty: the last value before it
abbrev pub fill_value_before : (first : Bool) → LastValues → ℕ → Cell
fill_value_before true v b = v.filling.first
fill_value_before false v b = value_or_fill v.filling.others (value_of (last_before b v.seen))

-- the value of the bucket at b: its last value that passes, or else that of an empty bucket
abbrev pub last_cell : LastValues → ℕ → Cell
last_cell v b = value_or_fill (fill_value_before (is_first v.filling.starts b) v b) (value_of (last_of (members v.filling.buckets.grid b (filter (counts v) v.seen))))

-- the row of a bucket
abbrev pub last_row : LastValues → ℕ → Row
last_row v b = row_at v.filling.buckets b (last_cell v b)

-- the rows of all buckets
abbrev pub last_rows : LastValues → List Row
last_rows v = map (last_row v) v.filling.starts

-- the buckets are those from the bucket of `lo` to that of `hi`, and all samples lie in them
pub record IsLine (lo hi : ℕ) (v : LastValues) : Type 0 where
  pub some : 1 ≤ v.filling.buckets.grid.duration
  pub ordered : lo ≤ hi
  pub are : v.filling.starts ≡ starts_between v.filling.buckets.grid lo hi
  pub rises : IsAscending v.seen
  pub from : All (λ p. lo ≤ p.time) v.seen
  pub upto : All (λ p. start v.filling.buckets.grid p.time ≤ start v.filling.buckets.grid hi) v.seen

-- ---- the current bucket

-- the sink has the rows of all earlier buckets, and the current bucket, which begins at b, has this state
pub record IsOpenWith (has : List Row → Type 0) (v : LastValues) (current : Current) (b : ℕ) : Type 0 where
  pub taken : has (take current.place.told (last_rows v))
  pub chosen : option_map cell_of current.chosen ≡ value_of (last_of (members v.filling.buckets.grid b (filter (counts v) v.seen)))
  pub before : option_map cell_of current.place.last ≡ value_of (last_before b v.seen)
  pub latest : option_map cell_of current.latest ≡ value_of (last_of v.seen)
  pub reached : All (λ p. start v.filling.buckets.grid p.time ≤ b) v.seen

-- the same, for the bucket at its index
abbrev pub IsOpen : (has : List Row → Type 0) → LastValues → Current → Type 0
IsOpen has v current = (b : ℕ) → slice_get v.filling.starts current.place.told ≡ Some b → IsOpenWith has v current b

-- the current bucket begins no later than t
abbrev pub BeginsBy : ℕ → LastValues → Current → Type 0
BeginsBy t v current = (b : ℕ) → slice_get v.filling.starts current.place.told ≡ Some b → b ≤ t

-- one of the buckets is current, and the sink has the rows of all earlier ones
pub record IsLasting (has : List Row → Type 0) (v : LastValues) (current : Current) : Type 0 where
  pub within : current.place.told < length v.filling.starts
  pub known : (lo hi : ℕ) → IsLine lo hi v → IsOpen has v current
  pub begun : (lo hi t : ℕ) → IsLine lo hi v → lo ≤ t → All (λ p. p.time ≤ t) v.seen → BeginsBy t v current
