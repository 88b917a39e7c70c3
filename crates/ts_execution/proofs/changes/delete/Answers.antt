use Rattle.std.proofs.Common.{sym, subst}
use Rattle.ts_spec.specs.Response.{Count}
use Rattle.ts_spec.specs.Step.{delete}
use Rattle.ts_db.specs.DbState.{DbState}
use Rattle.ts_questions.specs.Answering.{IsShort}
use Rattle.ts_execution.proofs.Carried.{answered}
use Rattle.ts_execution.proofs.ShortAnswers.{short_number_reply}
use Rattle.ts_execution.proofs.changes.delete.Goals as goal

pub returns-clause-answer : goal.returns-clause-answer
returns-clause-answer g c = answered (λ t. Count t) c.args.db.now c.delete_range.new.self (λ (h : DbState). delete h.limits h.state c.args.key.now c.args.from c.args.to) c.delete_range.result _ c.number_reply.ensures c.delete_range.ensures.deleted

pub returns-clause-short : goal.returns-clause-short
returns-clause-short g c = subst IsShort (sym (c.number_reply.ensures c.args.db.now.ids)) (short_number_reply c.args.db.now.ids c.delete_range.result c.delete_range.ensures.bounded)
