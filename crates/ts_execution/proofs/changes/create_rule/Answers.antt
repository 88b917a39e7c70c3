use Rattle.std.proofs.Common.{sym, subst}
use Rattle.ts_spec.specs.Response.{Done}
use Rattle.ts_spec.specs.Step.{create_rule}
use Rattle.ts_db.specs.DbState.{DbState}
use Rattle.ts_questions.specs.Answering.{IsShort}
use Rattle.ts_execution.proofs.Carried.{answered}
use Rattle.ts_execution.proofs.ShortAnswers.{short_done}
use Rattle.ts_execution.proofs.changes.create_rule.Goals as goal

pub returns-clause-answer : goal.returns-clause-answer
returns-clause-answer c = answered (λ x. Done) c.args.db.now c.create_rule.new.self (λ (h : DbState). create_rule h.limits h.state c.args.source.now c.args.dest.now c.args.agg c.args.grid) c.create_rule.result _ c.done_reply.ensures c.create_rule.ensures.ruled

pub returns-clause-short : goal.returns-clause-short
returns-clause-short c = subst IsShort (sym (c.done_reply.ensures c.args.db.now.ids)) (short_done c.args.db.now.ids c.create_rule.result)
