use Rattle.std.proofs.Common.{sym, ◌∙◌, ap, subst}
use Rattle.ts_command.specs.Faults.{fault_of, result_with_fault}
use Rattle.ts_command.specs.Reading.{triple_of}
use Rattle.ts_resp.specs.Replies.{reply_of}
use Rattle.std.proofs.Common.{ℕ}
use Rattle.ts_spec.specs.Step.{put_own}
use Rattle.ts_db.specs.DbState.{DbState, AnswersCount}
use Rattle.ts_questions.specs.Answering.{IsShort}
use Rattle.ts_execution.proofs.Added.{by-own}
use Rattle.ts_execution.proofs.ShortAnswers.{short_number_reply}
use Rattle.ts_execution.proofs.TripleItems.{fault_item, wrong_time, wrong_value, put_item}
use Rattle.ts_execution.proofs.multi_add.add_triple.Goals as goal

pub returns-in-Err-clause-reply : goal.returns-in-Err-clause-reply
returns-in-Err-clause-reply g c =
    wrong_time c.args.reading (triple_of c.args.triple) (fault_of c.in-Err.fault) (reply_of c.fault_reply.result) c.args.db.now (ap result_with_fault c.in-Err.is)
    (c.fault_reply.ensures ∙ fault_item c.in-Err.fault (c.args.triple.time_no_memory c.in-Err.fault c.in-Err.is))

pub returns-in-Ok-value-clause-reply : goal.returns-in-Ok-value-clause-reply
returns-in-Ok-value-clause-reply g c =
    put_item c.args.reading (triple_of c.args.triple) c.in-Ok.at c.in-Ok-value.value (ap result_with_fault c.in-Ok.is) (ap result_with_fault c.in-Ok-value.is) c.args.db.now c.put_with_hints.new.self c.put_with_hints.result
    (reply_of c.number_reply.result) c.number_reply.ensures
    (subst (λ (t : ℕ). AnswersCount c.args.db.now (λ (h : DbState). put_own h.limits h.state c.args.triple.key t c.in-Ok-value.value) c.put_with_hints.result c.put_with_hints.new.self) c.time_at.ensures.time
    (by-own c.args.db.now c.args.triple.key c.time_at.result c.in-Ok-value.value c.put_with_hints.result c.put_with_hints.new.self c.put_with_hints.ensures.put))

pub returns-clause-reply : goal.returns-clause-reply
returns-clause-reply g c =
    wrong_value c.args.reading (triple_of c.args.triple) c.in-Ok.at (fault_of c.in-Err-value.fault) (reply_of c.fault_reply-in-Err-value.result) c.args.db.now (ap result_with_fault c.in-Ok.is)
    (ap result_with_fault c.in-Err-value.is)
    (c.fault_reply-in-Err-value.ensures ∙ fault_item c.in-Err-value.fault (c.args.triple.value_no_memory c.in-Err-value.fault c.in-Err-value.is))

pub returns-in-Ok-value-clause-short : goal.returns-in-Ok-value-clause-short
returns-in-Ok-value-clause-short g c = subst IsShort (sym (c.number_reply.ensures c.args.db.now.ids)) (short_number_reply c.args.db.now.ids c.put_with_hints.result c.put_with_hints.ensures.bounded)
