use Rattle.std.proofs.Common.{◌≡◌, ◌+◌, ◌*◌, Bool, map, sym, ◌∙◌, ap, arith}
use Rattle.std.specs.Prelude.{reverse}
use Rattle.std.proofs.lemmas.Result.{IfOk-at_ok}
use Rattle.ts_spec.specs.Answer.{in_requested_order}
use Rattle.ts_range.specs.Query.{row_of}
use Rattle.ts_questions.specs.Asking.{queried_pieces, queried_reach}
use Rattle.ts_questions.proofs.WalkBounds.{seamed-still}
use Rattle.ts_questions.proofs.emit_planned_rows.reversed_gap_filled_rows.Goals as goal

pub returns-clause-rows : goal.returns-clause-rows
returns-clause-rows g c =
    let emitted = c.emit_gap_filled.ensures.rows in
    let kept : map row_of c.in_ok-rows.rows.items ≡ emitted.0 =
    IfOk-at_ok (λ rows. map row_of rows.items ≡ emitted.0) c.in_ok-rows.was (c.into_rows.ensures emitted.0 emitted.1) in
    c.in_requested_order.ensures ∙ ap reverse kept ∙ ap (λ (b : Bool). in_requested_order b emitted.0) (sym c.requires.backward) ∙ emitted.2

pub returns-in_err-row_sink-clause-seams : goal.returns-in_err-row_sink-clause-seams
returns-in_err-row_sink-clause-seams g c =
    let q = c.args.series_query.now.query.now in
    seamed-still (queried_pieces c.args.series_query.now) q.from q.to (c.args.steps.now + 2 * queried_reach c.args.series_query.now) c.args.steps.now (omega arith)
