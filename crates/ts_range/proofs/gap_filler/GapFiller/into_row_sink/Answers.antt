use Rattle.std.proofs.Common.{List, [], subst, append-nil}
use Rattle.ts_spec.specs.Answer.{Row}
use Rattle.ts_range.specs.FillPlan.{fill_plan_of, IsFilled}
use Rattle.ts_range.proofs.gap_filler.GapFiller.into_row_sink.Goals as goal

pub returns : goal.returns
returns g c = λ rows is.
    c.emit_empty_rest.ensures rows
    (subst (λ (all : List Row). IsFilled (g.T.RowSink.has c.args.self.row_sink) (fill_plan_of c.args.self.filling) c.args.self.place all []) (append-nil rows) (is []))
