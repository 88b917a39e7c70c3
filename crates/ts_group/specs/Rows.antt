-- The reduced rows of a group.
use Rattle.std.specs.Prelude.{ℕ, ◌≤◌, ◌==◌, if◌then◌else◌, Bool, List, map, length, Option}
use Rattle.ts_spec.specs.declared.bucket.Reducer.{Reducer}
use Rattle.ts_spec.specs.Aggregate.{Summary, result_of, aggregator_of}
use Rattle.ts_spec.specs.Answer.{Cell, Number, Nan, Row, in_requested_order, limit_rows}
use Rattle.ts_spec.specs.Groups.{reduced_rows}
use Rattle.ts_group.specs.Summaries.{Summaries, AreTimely}

-- the reduced value of an aggregate, NaN if it is empty
abbrev pub cell_of_summary : Reducer → Summary → Cell
cell_of_summary reducer s = if s.count == 0 then Nan else Number (result_of (aggregator_of reducer) s)

-- the row of a time
abbrev pub row_of_summary : Reducer → ℕ × Summary → Row
row_of_summary reducer e = record { time = e.0; value = cell_of_summary reducer e.1 }

-- the rows of these times, newest first if `reverse`
abbrev pub rows_of_summaries : Reducer → (reverse : Bool) → Summaries → List Row
rows_of_summaries reducer reverse es = in_requested_order reverse (map (row_of_summary reducer) es)

-- the rows of a group whose series have these rows: reduced, in the requested order, at most `count`
abbrev pub group_rows : Reducer → (count : Option ℕ) → (reverse : Bool) → List Row → List Row
group_rows reducer count reverse rows = limit_rows count (in_requested_order reverse (reduced_rows reducer rows))

-- all times are within the limit, and at most as many rows remain as there are times
pub record AreInPart (left : ℕ) (es : Summaries) : Type 0 where
  pub timely : AreTimely es
  pub few : left ≤ length es
