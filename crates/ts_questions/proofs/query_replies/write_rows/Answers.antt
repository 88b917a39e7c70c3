use Rattle.std.proofs.Common.{List, sym, subst, arith}
use Rattle.std.specs.Prelude.{Option}
use Rattle.ts_spec.specs.Answer.{Row}
use Rattle.ts_spec.specs.Queries.{rows_response}
use Rattle.ts_questions.specs.Answering.{IsReplyText}
use Rattle.ts_questions.specs.Asking.{steps_beside}
use Rattle.ts_questions.proofs.Asking.{within-series_query}
use Rattle.ts_questions.proofs.query_replies.write_rows.Goals as goal

pub returns-in-Some-clause-reply : goal.returns-in-Some-clause-reply
returns-in-Some-clause-reply g c =
    subst (λ (o : Option (List Row)). IsReplyText (rows_response o) c.write_planned_rows.new.out.bytes) (sym c.in-Some.ensures.few) c.write_planned_rows.ensures.reply

pub returns-in-Some-clause-steps : goal.returns-in-Some-clause-steps
returns-in-Some-clause-steps g c =
    let q = c.args.series_query.now in
    within-series_query q (steps_beside q c.in-Some.plan) c.args.steps.now c.row_plan.new.steps c.write_planned_rows.new.steps
    (c.known.ensures.around q.query.now.from q.query.now.to) c.in-Some.ensures.steps c.write_planned_rows.ensures.seams

pub returns-in-None-clause-steps : goal.returns-in-None-clause-steps
returns-in-None-clause-steps g c = omega (arith, c.in-None.ensures.refused)
