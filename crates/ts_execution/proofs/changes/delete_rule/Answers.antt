use Rattle.std.proofs.Common.{sym, subst}
use Rattle.ts_spec.specs.Response.{Done}
use Rattle.ts_spec.specs.Step.{delete_rule}
use Rattle.ts_db.specs.DbState.{DbState}
use Rattle.ts_questions.specs.Answering.{IsShort}
use Rattle.ts_execution.proofs.Carried.{answered_surely}
use Rattle.ts_execution.proofs.ShortAnswers.{short_done}
use Rattle.ts_execution.proofs.changes.delete_rule.Goals as goal

pub returns-clause-answer : goal.returns-clause-answer
returns-clause-answer c = answered_surely (λ x. Done) c.args.db.now c.delete_rule.new.self (λ (h : DbState). delete_rule h.state c.args.source.now c.args.dest.now) c.delete_rule.result _
    c.done_reply.ensures c.delete_rule.ensures.refused c.delete_rule.ensures.ended

pub returns-clause-short : goal.returns-clause-short
returns-clause-short c = subst IsShort (sym (c.done_reply.ensures c.args.db.now.ids)) (short_done c.args.db.now.ids c.delete_rule.result)
