use Rattle.std.proofs.Common.{arith, sym, subst}
use Rattle.std.specs.Prelude.{Ok, Err}
use Rattle.ts_spec.specs.Keyed.{get}
use Rattle.ts_spec.specs.Response.{Count}
use Rattle.ts_spec.specs.Settings.{nothing}
use Rattle.ts_spec.specs.SeriesOptions.{spec}
use Rattle.ts_spec.specs.Step.{Outcome, add}
use Rattle.ts_resp.specs.Replies.{reply_of}
use Rattle.ts_db.specs.Faults.{refusal_of}
use Rattle.ts_db.specs.DbState.{DbView, Represents, Simulates, IsAnswer}
use Rattle.ts_db.specs.PutBy.{put_with_policy}
use Rattle.ts_db.specs.declared.fault.DbFault.{DbFault}
use Rattle.ts_questions.specs.Answering.{IsShort}
use Rattle.ts_execution.specs.Handling.{StepOrOutOfMemory}
use Rattle.ts_execution.proofs.Added.{adds, added, not_added}
use Rattle.ts_execution.proofs.Carried.{answered}
use Rattle.ts_execution.proofs.MissingKey.{missing}
use Rattle.ts_execution.proofs.ShortAnswers.{short_number}
use Rattle.ts_execution.proofs.plain_add.write.Goals as goal

pub returns-in-Ok-clause-answer : goal.returns-in-Ok-clause-answer
returns-in-Ok-clause-answer g c =
    let a = c.args.addition.now in
    answered (λ t. Count t) c.args.db.now c.put_with_hints.new.self (adds a.key.now c.args.time a.value a.on (spec nothing)) (Ok c.in-Ok.time) (reply_of c.number.result) (λ ids. c.number.ensures)
    (added a.key.now c.args.time a.value a.on (spec nothing) c.args.db.now c.put_with_hints.new.self c.in-Ok.time c.in-Ok.ensures.put)

pub returns-in-Ok-clause-short : goal.returns-in-Ok-clause-short
returns-in-Ok-clause-short g c = subst IsShort (sym c.number.ensures) (short_number c.in-Ok.time (omega (arith, c.in-Ok.ensures.bounded)))

pub begin-requires-clause-missing : goal.begin-requires-clause-missing
begin-requires-clause-missing g c from stands =
    let a = c.args.addition.now in
    let before = subst (λ (s : DbView). Represents s from) c.in-Err.ensures.put.1 stands in
    let step : Outcome = put_with_policy from.limits from.state a.key.now c.args.time a.value a.on in
    missing from.limits from.state a.key.now c.args.time a.value a.on (get a.key.now from.state)
    (subst (λ (fault : DbFault). IsAnswer (refusal_of c.args.db.now.ids fault) from.state step) c.in-NoKey.is (c.in-Err.ensures.put.0 from before))

-- the key does not exist, and the database is as before
pub returns-in-NoKey-clause-answer : goal.returns-in-NoKey-clause-answer
returns-in-NoKey-clause-answer g c =
    let a = c.args.addition.now in
    subst (λ (s : DbView). Simulates s c.begin.new.db (λ from to. StepOrOutOfMemory (add from.limits from.state a.key.now c.args.time a.value a.on (spec nothing)) from (reply_of c.begin.result) to))
    c.in-Err.ensures.put.1 c.begin.ensures.answer

pub returns-in_default-clause-answer : goal.returns-in_default-clause-answer
returns-in_default-clause-answer g c =
    let a = c.args.addition.now in
    answered (λ t. Count t) c.args.db.now c.put_with_hints.new.self (adds a.key.now c.args.time a.value a.on (spec nothing)) (Err c.in-Err.fault) (reply_of c.refusal_reply.result) c.refusal_reply.ensures.reply
    (not_added a.key.now c.args.time a.value a.on (spec nothing) c.args.db.now c.put_with_hints.new.self c.in-Err.fault c.in_default.not-NoKey c.in-Err.ensures.put)
