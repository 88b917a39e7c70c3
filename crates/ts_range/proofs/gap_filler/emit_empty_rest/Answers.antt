use Rattle.ts_range.specs.FillPlan.{fill_plan_of}
use Rattle.ts_range.proofs.NextRow.{all-told}
use Rattle.ts_range.proofs.gap_filler.emit_empty_rest.Goals as goal

pub returns : goal.returns
returns g c = λ all is.
    all-told (g.T.RowSink.has c.loop-start.row_sink) (fill_plan_of c.args.filling.now) c.loop-start.place all _ c.in_default.ensures.none (c.loop-start.invariant all is)
