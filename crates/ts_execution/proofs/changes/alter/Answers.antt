use Rattle.std.proofs.Common.{sym, subst}
use Rattle.ts_labels.specs.Spec.{change_of}
use Rattle.ts_spec.specs.Response.{Done}
use Rattle.ts_spec.specs.Step.{alter}
use Rattle.ts_db.specs.DbState.{DbState}
use Rattle.ts_questions.specs.Answering.{IsShort}
use Rattle.ts_execution.proofs.Carried.{answered}
use Rattle.ts_execution.proofs.ShortAnswers.{short_done}
use Rattle.ts_execution.proofs.changes.alter.Goals as goal

pub returns-clause-answer : goal.returns-clause-answer
returns-clause-answer g c = answered (λ x. Done) c.args.db.now c.alter.new.self (λ (h : DbState). alter h.limits h.state c.args.key.now (change_of c.args.change)) c.alter.result _ c.done_reply.ensures c.alter.ensures.altered

pub returns-clause-short : goal.returns-clause-short
returns-clause-short g c = subst IsShort (sym (c.done_reply.ensures c.args.db.now.ids)) (short_done c.args.db.now.ids c.alter.result)
