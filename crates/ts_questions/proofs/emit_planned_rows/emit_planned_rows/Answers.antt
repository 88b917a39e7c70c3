use Rattle.std.proofs.Common.{Bool, ap, subst, sym, ◌∙◌}
use Rattle.ts_spec.specs.Answer.{in_requested_order}
use Rattle.ts_questions.proofs.emit_planned_rows.emit_planned_rows.Goals as goal

pub returns-in-Buckets-clause-rows : goal.returns-in-Buckets-clause-rows
returns-in-Buckets-clause-rows g c =
    let emitted = c.emit_gap_filled.ensures.rows in
    subst (g.T.RowSink.has c.emit_gap_filled.result) (ap (λ (b : Bool). in_requested_order b emitted.0) (sym c.if-series_query.false) ∙ emitted.2) emitted.1
