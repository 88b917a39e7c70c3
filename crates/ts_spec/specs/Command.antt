-- Parsed commands.
use Rattle.std.specs.Prelude.{ℕ, ℤ, Bool, List, Option, Result}
use Rattle.ts_spec.specs.declared.series.Policy.{Policy}
use Rattle.ts_spec.specs.declared.series.Ignore.{Ignore}
use Rattle.ts_spec.specs.declared.series.Options.{Options}
use Rattle.ts_spec.specs.declared.command.At.{At}
use Rattle.ts_spec.specs.declared.bucket.Aggregator.{Aggregator}
use Rattle.ts_spec.specs.declared.bucket.Reducer.{Reducer}
use Rattle.ts_spec.specs.declared.bucket.Stamp.{Stamp}
use Rattle.ts_spec.specs.Bucket.{Grid}
use Rattle.ts_spec.specs.Key.{Key}
use Rattle.ts_spec.specs.State.{Label}
use Rattle.ts_spec.specs.Filter.{Filter}
use Rattle.ts_spec.specs.Refusal.{Fault}

-- The options and labels of a new series. If a label was given twice, its last value counts, at its first position.
pub record Spec : Type 0 where
  pub options : Options
  pub labels : List Label

-- the options that TS.ALTER sets; `None` keeps the old value
pub record Change : Type 0 where
  pub retention : Option ℕ
  pub chunk_size : Option ℕ
  pub policy : Option Policy
  pub ignore : Option Ignore
  pub labels : Option (List Label)

-- One sample of TS.MADD. A bad time or value is reported in the reply to this triple alone.
pub record Triple : Type 0 where
  pub key : Key
  pub at : Result At Fault
  pub value : Result ℤ Fault

-- The aggregation of a query: the grid, the aggregator, which timestamp a bucket gets, and whether empty buckets are
-- returned (EMPTY).
pub record Buckets : Type 0 where
  pub grid : Grid
  pub agg : Aggregator
  pub stamp : Stamp
  pub empty : Bool

-- an interval of values in millionths, both ends included
pub record Span : Type 0 where
  pub least : ℤ
  pub greatest : ℤ

-- A range query: the interval (both ends included, in milliseconds), the filters by times and values, the row limit,
-- the buckets, and whether the newest row comes first.
pub record Query : Type 0 where
  pub from : ℕ
  pub to : ℕ
  pub times : Option (List ℕ)
  pub values : Option Span
  pub count : Option ℕ
  pub buckets : Option Buckets
  pub reverse : Bool

-- which labels a reply over many series includes
pub data Show : Type 0 where
  Nothing : Show
  All : Show
  Selected : List (List ℕ) → Show

-- GROUPBY: one reply for each value of the label, whose values at each time are combined by the reducer
pub record GroupBy : Type 0 where
  pub label : List ℕ
  pub reducer : Reducer

-- A command.
pub data Command : Type 0 where
  Create : Key → Spec → Command
  Alter : Key → Change → Command
  Add : Key → At → (value : ℤ) → (on : Option Policy) → Spec → Command
  Madd : List Triple → Command
  Incr : Key → (change : ℤ) → At → Spec → Command
  DelRange : Key → (from : ℕ) → (to : ℕ) → Command
  CreateRule : (source : Key) → (dest : Key) → Aggregator → Grid → Command
  DeleteRule : (source : Key) → (dest : Key) → Command
  Range : Key → (latest : Bool) → Query → Command
  MRange : (latest : Bool) → Show → List Filter → Query → (group : Option GroupBy) → Command
  Get : Key → (latest : Bool) → Command
  MGet : (latest : Bool) → Show → List Filter → Command
  QueryIndex : List Filter → Command
  InfoOf : Key → Command
  Ping : Option (List ℕ) → Command
  Echo : List ℕ → Command
  Quit : Command
  Drop : List Key → Command
  Exists : List Key → Command
