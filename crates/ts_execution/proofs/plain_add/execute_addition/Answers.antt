use Rattle.std.proofs.Common.{ℕ, refl, subst}
use Rattle.ts_spec.specs.Command.{Add}
use Rattle.ts_spec.specs.Settings.{nothing}
use Rattle.ts_spec.specs.SeriesOptions.{spec}
use Rattle.ts_spec.specs.Step.{add, time_of}
use Rattle.ts_resp.specs.Replies.{reply_of}
use Rattle.ts_db.specs.DbState.{DbState, Simulates}
use Rattle.ts_questions.proofs.ReplyTexts.{alone}
use Rattle.ts_execution.specs.Handling.{StepOrOutOfMemory}
use Rattle.ts_execution.proofs.Executed.{step_executes}
use Rattle.ts_execution.proofs.plain_add.execute_addition.Goals as goal

pub returns-clause-executes : goal.returns-clause-executes
returns-clause-executes g c =
    let a = c.args.addition.now in
    step_executes c.args.reading (Add a.key.now a.at a.value a.on (spec nothing)) (λ (h : DbState). add h.limits h.state a.key.now (time_of c.args.reading a.at) a.value a.on (spec nothing))
    c.args.db.now c.write.new.db (reply_of c.write.result) c.put.new.out.bytes refl (λ from y. y) (λ from to is. is)
    (subst (λ (t : ℕ). Simulates c.args.db.now c.write.new.db (λ from to. StepOrOutOfMemory (add from.limits from.state a.key.now t a.value a.on (spec nothing)) from (reply_of c.write.result) to))
    c.time_at-time.ensures.time c.write.ensures.answer) (alone (reply_of c.write.result) c.clear.new.self.bytes c.put.new.out.bytes c.put.ensures.bytes c.clear.ensures.empty)
