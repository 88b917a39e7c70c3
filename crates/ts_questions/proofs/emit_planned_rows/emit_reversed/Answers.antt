use Rattle.std.proofs.Common.{[], ap, subst, map, ◌∙◌}
use Rattle.ts_range.specs.Query.{row_of}
use Rattle.ts_questions.specs.Asking.{queried_rows}
use Rattle.ts_questions.proofs.emit_planned_rows.emit_reversed.Goals as goal

pub returns-in-Ok-clause-rows : goal.returns-in-Ok-clause-rows
returns-in-Ok-clause-rows g c =
    subst (g.T.RowSink.has c.emit_rows.new.row_sink) (ap (map row_of) c.deref.ensures.value ∙ c.in-Ok.ensures.rows) (c.emit_rows.ensures [] c.requires.none)

pub returns-in-Err-clause-rows : goal.returns-in-Err-clause-rows
returns-in-Err-clause-rows g c = c.lose.ensures (queried_rows c.args.series_query.now)
