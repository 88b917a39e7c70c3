-- Aggregates of the rows of a group, by time.
use Rattle.std.specs.Prelude.{◌≡◌, ◌≤◌, ℕ, Bool, false, List, map, All}
use Rattle.std.specs.Map.{keys_of}
use Rattle.ts_spec.specs.Sample.{MAX_TIME}
use Rattle.ts_spec.specs.Aggregate.{Summary, summary}
use Rattle.ts_spec.specs.Answer.{Row}
use Rattle.ts_spec.specs.Groups.{times, numbers_at}

-- times with the aggregates of their values
abbrev pub Summaries : Type 0
Summaries = List (ℕ × Summary)

-- a time, with the aggregate of the rows' values at it
abbrev pub summary_at : List Row → ℕ → ℕ × Summary
summary_at rows t = (t, summary (numbers_at t rows))

-- the same for each time of the rows
abbrev pub summaries : List Row → Summaries
summaries rows = map (summary_at rows) (times rows)

-- no time is above the greatest
abbrev pub AreTimely : Summaries → Type 0
AreTimely es = All (λ t. t ≤ MAX_TIME) (keys_of es)

-- the state of a reduction: the aggregates, and whether memory ran out for a row
pub record ReductionState : Type 0 where
  pub summaries : Summaries
  pub lost : Bool

-- the state has these rows, unless memory ran out
abbrev pub HasAccepted : ReductionState → List Row → Type 0
HasAccepted k rows = k.lost ≡ false → k.summaries ≡ summaries rows
