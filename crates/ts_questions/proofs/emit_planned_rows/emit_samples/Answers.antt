use Rattle.std.proofs.Common.{◌≡◌, ◌+◌, ◌*◌, ◌∙◌, List, refl, ap, subst, arith}
use Rattle.std.specs.Prelude.{Option}
use Rattle.ts_spec.specs.Answer.{Row, limit_rows, passes_filters}
use Rattle.ts_range.specs.Query.{query_of}
use Rattle.ts_range.specs.SinkState.{Limit}
use Rattle.ts_range.proofs.Whole.{walk-rows}
use Rattle.ts_questions.specs.Asking.{queried_samples, queried_pieces, queried_reach, queried_rows, rows_in}
use Rattle.ts_questions.proofs.WalkBounds.{seamed-part}
use Rattle.ts_questions.proofs.emit_planned_rows.emit_samples.Goals as goal

pub returns-clause-rows : goal.returns-clause-rows
returns-clause-rows g c =
    let series_query = c.args.series_query.now in
    let q = series_query.query.now in
    let to = c.narrowed_to-to.result in
    let all : List Row = rows_in q (queried_samples series_query) q.from to in
    let same : limit_rows c.emitted.result.count all ≡ queried_rows series_query =
    ap (λ (l : Limit). limit_rows l.count all) c.emitted.ensures.limit ∙ ap (λ (o : Option _). limit_rows o all) c.new-row_sink.ensures.count
    ∙ walk-rows (record (query_of q) { to = to }) (queried_samples series_query) (passes_filters (query_of q)) (λ p. refl) c.requires.forward c.requires.full
    ∙ c.narrowed_to-to.ensures.rows in
    subst (g.T.RowSink.has c.into_row_sink.result) same (c.into_row_sink.ensures all c.emitted.ensures.rows)

pub returns-clause-seams : goal.returns-clause-seams
returns-clause-seams g c =
    let q = c.args.series_query.now.query.now in
    seamed-part (queried_pieces c.args.series_query.now) q.from q.to q.from c.narrowed_to-to.result c.args.steps.now (c.args.steps.now + 3 * queried_reach c.args.series_query.now) c.emitted.new.steps (omega arith)
    c.narrowed_to-to.ensures.within (omega arith) c.emitted.ensures.seams
