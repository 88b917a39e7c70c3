use Rattle.std.proofs.Common.{sym, subst}
use Rattle.ts_labels.specs.Spec.{spec_of}
use Rattle.ts_spec.specs.Response.{Count}
use Rattle.ts_spec.specs.Step.{add}
use Rattle.ts_db.specs.DbState.{DbState}
use Rattle.ts_questions.specs.Answering.{IsShort}
use Rattle.ts_execution.proofs.Carried.{answered}
use Rattle.ts_execution.proofs.ShortAnswers.{short_number_reply}
use Rattle.ts_execution.proofs.changes.add.Goals as goal

pub returns-clause-answer : goal.returns-clause-answer
returns-clause-answer g c = answered (λ t. Count t) c.args.db.now c.add.new.self (λ (h : DbState). add h.limits h.state c.args.key c.args.time c.args.value c.args.on (spec_of c.args.spec)) c.add.result _ c.number_reply.ensures c.add.ensures.added

pub returns-clause-short : goal.returns-clause-short
returns-clause-short g c = subst IsShort (sym (c.number_reply.ensures c.args.db.now.ids)) (short_number_reply c.args.db.now.ids c.add.result c.add.ensures.bounded)
