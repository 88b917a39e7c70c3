-- The states that stored data represents.
use Rattle.std.specs.Prelude.{◌≡◌, ◌≤◌, ⊤, List, [], ◌∷◌, Some}
use Rattle.ts_spec.specs.declared.limits.Limits.{Limits}
use Rattle.ts_spec.specs.Key.{Key}
use Rattle.ts_spec.specs.Keyed.{get}
use Rattle.ts_spec.specs.State.{State}
use Rattle.ts_spec.specs.Outcome.{Outcome}
use Rattle.ts_spec.specs.Valid.{IsValid}
use Rattle.ts_spec.specs.StoredSeries.{StoredRule, StoredSeries, StoredKeys, kept}
use Rattle.ts_spec.specs.StoredStep.{StoredOutcome}

-- the stored data represents a valid state
pub record RepresentsState (limits : Limits) (keys : StoredKeys) (m : State) : Type 0 where
  pub valid : IsValid limits m
  pub kept : keys ≡ kept m

-- the buckets of these rules last at least a millisecond
abbrev pub HaveDurations : List StoredRule → Type 0
HaveDurations [] = ⊤
HaveDurations (q ∷ qs) = (1 ≤ q.grid.duration) × HaveDurations qs

-- the same for the rules of all keys
abbrev pub AllHaveDurations : StoredKeys → Type 0
AllHaveDurations keys = (k : Key) (d : StoredSeries) → get k keys ≡ Some d → HaveDurations d.rules

-- The step over the stored data has the same response as the step of the state, and its result represents the next
-- state.
pub record SimulatesStep (limits : Limits) (done : Outcome) (stored_done : StoredOutcome) : Type 0 where
  pub response : done.response ≡ stored_done.response
  pub stands : RepresentsState limits stored_done.keys done.state
