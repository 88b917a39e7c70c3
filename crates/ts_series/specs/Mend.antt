-- An update of a series: rows replace the samples of an interval.
use Rattle.std.specs.Prelude.{◌≡◌, ℕ, ◌+◌, ◌<◌, ◌≤◌, List, length, Result, Ok, Err}
use Rattle.ts_spec.specs.Sample.{Point, is_within, last_of}
use Rattle.ts_spec.specs.StoredUpdates.{updated_list, high_after_rows}
use Rattle.ts_sample.specs.Chunk.{IsPast}
use Rattle.ts_series.specs.declared.plan.PutFault.{PutFault}
use Rattle.ts_series.specs.declared.plan.PutFault.TheVariants.{Full, Memory}
use Rattle.ts_series.specs.History.{History, list_of, reach}
use Rattle.ts_series.specs.Plan.{Plan, after}

-- the samples after the rows replace the interval's, from the retention edge on that the rows raise
abbrev pub list_after_update : (from to : ℕ) → List Point → History → List Point
list_after_update from to rows h = updated_list h.options.retention h.high (is_within from to) rows (list_of h)

-- the plan updates the series like this, within the sample limit
pub record IsUpdatePlan (from to : ℕ) (rows : List Point) (limit : ℕ) (h : History) (plan : Plan) : Type 0 where
  pub list : list_of (after plan h) ≡ list_after_update from to rows h
  pub high : (after plan h).high ≡ high_after_rows rows h.high
  pub options : (after plan h).options ≡ h.options
  pub fits : length (list_after_update from to rows h) ≤ limit

-- `Full` means that the series would exceed the limit, `Memory` that it would not
abbrev pub IsUpdateFault : (from to : ℕ) → (rows : List Point) → (limit : ℕ) → History → PutFault → Type 0
IsUpdateFault from to rows limit h Full = limit < length (list_after_update from to rows h)
IsUpdateFault from to rows limit h (Memory e) = length (list_after_update from to rows h) ≤ limit
IsUpdateFault from to rows limit h fault = ⊥

-- the result of planning an update
abbrev pub IsUpdateAnswer : (from to : ℕ) → (rows : List Point) → (limit : ℕ) → History → Result Plan PutFault → Type 0
IsUpdateAnswer from to rows limit h (Ok plan) = IsUpdatePlan from to rows limit h plan
IsUpdateAnswer from to rows limit h (Err fault) = IsUpdateFault from to rows limit h fault

-- a single row after the last sample, with the series a reach below the limit
pub record IsRowPast (from to : ℕ) (rows : List Point) (limit : ℕ) (h : History) : Type 0 where
  pub one : length rows ≡ 1
  pub here : from ≡ to
  pub past : IsPast (last_of (list_of h)) from
  pub few : length (list_of h) + reach h < limit
