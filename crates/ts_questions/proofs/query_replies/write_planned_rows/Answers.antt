use Rattle.std.proofs.Common.{◌+◌, arith}
use Rattle.ts_questions.specs.Asking.{queried_pieces, queried_rows, steps_beside}
use Rattle.ts_questions.proofs.WalkBounds.{seamed-still}
use Rattle.ts_questions.proofs.query_replies.write_planned_rows.Goals as goal

pub returns-clause-reply : goal.returns-clause-reply
returns-clause-reply g c = c.finish.ensures.reply (queried_rows c.args.series_query.now) c.emit_planned_rows.ensures.rows

pub returns-in-Err-clause-seams : goal.returns-in-Err-clause-seams
returns-in-Err-clause-seams g c =
    let q = c.args.series_query.now in
    seamed-still (queried_pieces q) q.query.now.from q.query.now.to (c.args.steps.now + steps_beside q c.args.plan.now) c.args.steps.now (omega arith)
