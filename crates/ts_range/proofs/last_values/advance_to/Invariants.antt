use Rattle.std.proofs.Common.{◌≡◌, ℕ, ◌<◌, ◌-◌, length}
use Rattle.ts_range.specs.FillPlan.{fill_plan_of}
use Rattle.ts_range.specs.LastValues.{LastValues, IsLine, IsOpen, BeginsBy}
use Rattle.ts_range.specs.Starts.{starts_of}
use Rattle.ts_range.proofs.last_values.advance_to.Given as goal

abbrev pub invariant-loop-next : goal.invariant-loop-next
invariant-loop-next g l = record {
  within : l.current.place.told < length (starts_of l.filling.starts);
  known : (v : LastValues) (lo hi : ℕ) → v.filling ≡ fill_plan_of l.filling → IsLine lo hi v → IsOpen (g.T.RowSink.has l.fn.row_sink) v l.fn.current → IsOpen (g.T.RowSink.has l.row_sink) v l.current;
  begun : (v : LastValues) → v.filling ≡ fill_plan_of l.filling → BeginsBy l.time v l.fn.current → BeginsBy l.time v l.current;
}

abbrev pub decreases-loop-next : goal.decreases-loop-next
decreases-loop-next g l = length (starts_of l.filling.starts) - l.current.place.told
