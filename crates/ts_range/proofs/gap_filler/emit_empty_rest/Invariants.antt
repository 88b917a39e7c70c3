use Rattle.std.proofs.Common.{List, [], length, ◌-◌}
use Rattle.ts_spec.specs.Answer.{Row}
use Rattle.ts_range.specs.FillPlan.{fill_plan_of, IsFilled}
use Rattle.ts_range.specs.Starts.{starts_of}
use Rattle.ts_range.proofs.gap_filler.emit_empty_rest.Given as goal

abbrev pub invariant-loop-start : goal.invariant-loop-start
invariant-loop-start g l =
    (all : List Row) → IsFilled (g.T.RowSink.has l.fn.row_sink) (fill_plan_of l.filling) l.fn.place all [] → IsFilled (g.T.RowSink.has l.row_sink) (fill_plan_of l.filling) l.place all []

abbrev pub decreases-loop-start : goal.decreases-loop-start
decreases-loop-start g l = length (starts_of l.filling.starts) - l.place.told
