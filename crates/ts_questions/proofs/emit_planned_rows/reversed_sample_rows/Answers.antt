use Rattle.std.proofs.Common.{◌≡◌, ◌+◌, ◌*◌, ◌∙◌, map, refl, sym, ap, arith}
use Rattle.std.specs.Prelude.{Option, Some, reverse}
use Rattle.std.proofs.lemmas.Result.{IfOk-weaker}
use Rattle.ts_spec.specs.Answer.{limit_rows, passes_filters}
use Rattle.ts_range.specs.Query.{query_of, row_of}
use Rattle.ts_range.proofs.Whole.{walk-rows-back}
use Rattle.ts_questions.specs.Asking.{queried_samples, queried_pieces, queried_reach, queried_rows, rows_in}
use Rattle.ts_questions.proofs.WalkBounds.{seamed-part}
use Rattle.ts_questions.proofs.emit_planned_rows.reversed_sample_rows.Goals as goal

pub returns-in-Some-clause-rows : goal.returns-in-Some-clause-rows
returns-in-Some-clause-rows g c =
    let series_query = c.args.series_query.now in
    let q = series_query.query.now in
    let all = rows_in q (queried_samples series_query) q.from q.to in
    IfOk-weaker c.last_rows.result (λ found. map row_of found.items ≡ limit_rows (Some c.in-Some.count) (reverse all)) (λ found. map row_of found.items ≡ queried_rows series_query)
    (λ found told.
    told
    ∙ ap (λ (o : Option _). limit_rows o (reverse all)) (sym c.in-Some.is)
    ∙ walk-rows-back (query_of q) (queried_samples series_query) (passes_filters (query_of q)) (λ p. refl) c.requires.backward c.requires.full)
    c.last_rows.ensures.rows

-- without COUNT
pub returns-clause-rows : goal.returns-clause-rows
returns-clause-rows g c =
    let series_query = c.args.series_query.now in
    let q = series_query.query.now in
    let all = rows_in q (queried_samples series_query) q.from q.to in
    c.in_requested_order.ensures
    ∙ ap (λ rs. reverse rs) c.in_ok-rows.ensures.rows
    ∙ ap (λ (o : Option _). limit_rows o (reverse all)) (sym c.in_default.is)
    ∙ walk-rows-back (query_of q) (queried_samples series_query) (passes_filters (query_of q)) (λ p. refl) c.requires.backward c.requires.full

pub returns-in_err-rows-clause-seams : goal.returns-in_err-rows-clause-seams
returns-in_err-rows-clause-seams g c =
    let q = c.args.series_query.now.query.now in
    seamed-part (queried_pieces c.args.series_query.now) q.from q.to q.from q.to c.args.steps.now (c.args.steps.now + 3 * queried_reach c.args.series_query.now) c.rows_between.new.steps
    (omega arith) (omega arith) (omega arith) c.rows_between.ensures.seams

pub returns-clause-seams : goal.returns-clause-seams
returns-clause-seams g c =
    let q = c.args.series_query.now.query.now in
    seamed-part (queried_pieces c.args.series_query.now) q.from q.to q.from q.to c.args.steps.now (c.args.steps.now + 3 * queried_reach c.args.series_query.now) c.rows_between.new.steps
    (omega arith) (omega arith) (omega arith) c.rows_between.ensures.seams
