use Rattle.std.proofs.Common.{ℕ, ◌+◌, ◌≤◌, List, refl, ◌∙◌, ap, subst, arith}
use Rattle.ts_labels.specs.Spec.{spec_of, change_of}
use Rattle.ts_labels.specs.Show.{show_of}
use Rattle.ts_spec.specs.Filter.{Filter, selection}
use Rattle.ts_spec.specs.Groups.{ranges_response}
use Rattle.ts_command.specs.GroupBy.{group_of}
use Rattle.ts_questions.specs.Answering.{IsReplyText}
use Rattle.ts_questions.specs.Members.{many_response}
use Rattle.ts_questions.specs.declared.members.MemberContent.TheVariants.{Last}
use Rattle.ts_questions.specs.declared.members.MemberContent.TheVariants as wanted
use Rattle.ts_range.specs.Query.{query_of}
use Rattle.ts_resp.specs.Replies.{reply_of}
use Rattle.ts_spec.specs.Command.{Create, Alter, Add, Incr, DelRange, CreateRule, DeleteRule, Range, MRange, Get, MGet, QueryIndex, InfoOf, Echo, Quit, Drop, Exists}
use Rattle.ts_spec.specs.Keyed.{get}
use Rattle.ts_spec.specs.Queries.{range_response, last_response, info_response}
use Rattle.ts_spec.specs.Key.{Key}
use Rattle.ts_spec.specs.Replies.{number}
use Rattle.ts_spec.specs.Response.{Word}
use Rattle.ts_spec.specs.Step.{time_of, create, alter, add, incr, delete, create_rule, drop_keys, count_there}
use Rattle.ts_db.specs.DbState.{DbState, Represents, Simulates, AllowsOutOfMemory}
use Rattle.ts_questions.proofs.ReplyTexts.{alone}
use Rattle.ts_execution.specs.Handling.{IsStep, StepOrOutOfMemory, may_run_out_of_memory}
use Rattle.ts_execution.proofs.Executed.{step_executes, sure_executes, executes_with, asks_execute, asks_surely, pings_execute}
use Rattle.std.specs.Prelude.{IsTrue, option_map}
use Rattle.ts_spec.specs.StoredQueries.{stored_selection}
use Rattle.ts_db.specs.Bounds.{write_steps, selection_steps}
use Rattle.ts_questions.specs.Bounds.{members_steps}
use Rattle.ts_questions.proofs.MemberBounds.{sum-none}
use Rattle.ts_execution.proofs.execution.execute_with_hints.Goals as goal

pub returns-in-Create-clause-executes : goal.returns-in-Create-clause-executes
returns-in-Create-clause-executes g c =
    rw c.in-Create.is (step_executes c.args.reading (Create c.in-Create.key (spec_of c.in-Create.spec)) (λ (h : DbState). create h.limits h.state c.in-Create.key (spec_of c.in-Create.spec)) c.args.db.now c.create.new.db (reply_of c.create.result)
    c.put.new.out.bytes refl (λ from y. y) (λ from to is. is) c.create.ensures.answer (alone (reply_of c.create.result) c.clear.new.self.bytes c.put.new.out.bytes c.put.ensures.bytes c.clear.ensures.empty))

pub returns-in-Alter-clause-executes : goal.returns-in-Alter-clause-executes
returns-in-Alter-clause-executes g c =
    rw c.in-Alter.is (step_executes c.args.reading (Alter c.in-Alter.key (change_of c.in-Alter.change)) (λ (h : DbState). alter h.limits h.state c.in-Alter.key (change_of c.in-Alter.change)) c.args.db.now c.alter.new.db (reply_of c.alter.result)
    c.put-in-Alter.new.out.bytes refl (λ from y. y) (λ from to is. is) c.alter.ensures.answer (alone (reply_of c.alter.result) c.clear.new.self.bytes c.put-in-Alter.new.out.bytes c.put-in-Alter.ensures.bytes c.clear.ensures.empty))

pub returns-in-Add-clause-executes : goal.returns-in-Add-clause-executes
returns-in-Add-clause-executes g c =
    rw c.in-Add.is (step_executes c.args.reading (Add c.in-Add.key c.in-Add.at c.in-Add.value c.in-Add.on (spec_of c.in-Add.spec)) (λ (h : DbState). add h.limits h.state c.in-Add.key (time_of c.args.reading c.in-Add.at) c.in-Add.value c.in-Add.on (spec_of c.in-Add.spec)) c.args.db.now c.add.new.db (reply_of c.add.result)
    c.put-in-Add.new.out.bytes refl (λ from y. y) (λ from to is. is)
    (subst (λ (t : ℕ). Simulates c.args.db.now c.add.new.db (λ from to. StepOrOutOfMemory (add from.limits from.state c.in-Add.key t c.in-Add.value c.in-Add.on (spec_of c.in-Add.spec)) from (reply_of c.add.result) to))
    c.time_at.ensures.time c.add.ensures.answer) (alone (reply_of c.add.result) c.clear.new.self.bytes c.put-in-Add.new.out.bytes c.put-in-Add.ensures.bytes c.clear.ensures.empty))

pub returns-in-Madd-clause-executes : goal.returns-in-Madd-clause-executes
returns-in-Madd-clause-executes g c =
    rw c.in-Madd.is c.execute_triples.ensures.executes

pub returns-in-Incr-clause-executes : goal.returns-in-Incr-clause-executes
returns-in-Incr-clause-executes g c =
    rw c.in-Incr.is (step_executes c.args.reading (Incr c.in-Incr.key c.in-Incr.change c.in-Incr.at (spec_of c.in-Incr.spec)) (λ (h : DbState). incr h.limits h.state c.in-Incr.key c.in-Incr.change (time_of c.args.reading c.in-Incr.at) (spec_of c.in-Incr.spec)) c.args.db.now c.incr.new.db (reply_of c.incr.result)
    c.put-in-Incr.new.out.bytes refl (λ from y. y) (λ from to is. is)
    (subst (λ (t : ℕ). Simulates c.args.db.now c.incr.new.db (λ from to. StepOrOutOfMemory (incr from.limits from.state c.in-Incr.key c.in-Incr.change t (spec_of c.in-Incr.spec)) from (reply_of c.incr.result) to))
    c.time_at-in-Incr.ensures.time c.incr.ensures.answer) (alone (reply_of c.incr.result) c.clear.new.self.bytes c.put-in-Incr.new.out.bytes c.put-in-Incr.ensures.bytes c.clear.ensures.empty))

pub returns-in-DelRange-clause-executes : goal.returns-in-DelRange-clause-executes
returns-in-DelRange-clause-executes g c =
    rw c.in-DelRange.is (step_executes c.args.reading (DelRange c.in-DelRange.key c.in-DelRange.from c.in-DelRange.to) (λ (h : DbState). delete h.limits h.state c.in-DelRange.key c.in-DelRange.from c.in-DelRange.to) c.args.db.now c.delete.new.db (reply_of c.delete.result)
    c.put-in-DelRange.new.out.bytes refl (λ from y. y) (λ from to is. is) c.delete.ensures.answer (alone (reply_of c.delete.result) c.clear.new.self.bytes c.put-in-DelRange.new.out.bytes c.put-in-DelRange.ensures.bytes c.clear.ensures.empty))

pub returns-in-CreateRule-clause-executes : goal.returns-in-CreateRule-clause-executes
returns-in-CreateRule-clause-executes g c =
    rw c.in-CreateRule.is (step_executes c.args.reading (CreateRule c.in-CreateRule.source c.in-CreateRule.dest c.in-CreateRule.agg c.in-CreateRule.grid)
    (λ (h : DbState). create_rule h.limits h.state c.in-CreateRule.source c.in-CreateRule.dest c.in-CreateRule.agg c.in-CreateRule.grid) c.args.db.now c.create_rule.new.db (reply_of c.create_rule.result)
    c.put-in-CreateRule.new.out.bytes refl (λ from y. y) (λ from to is. is) c.create_rule.ensures.answer (alone (reply_of c.create_rule.result) c.clear.new.self.bytes c.put-in-CreateRule.new.out.bytes c.put-in-CreateRule.ensures.bytes c.clear.ensures.empty))

pub returns-in-DeleteRule-clause-executes : goal.returns-in-DeleteRule-clause-executes
returns-in-DeleteRule-clause-executes g c =
    rw c.in-DeleteRule.is (sure_executes c.args.reading (DeleteRule c.in-DeleteRule.source c.in-DeleteRule.dest) c.args.db.now c.delete_rule.new.db (reply_of c.delete_rule.result) c.put-in-DeleteRule.new.out.bytes
    c.delete_rule.ensures.answer (alone (reply_of c.delete_rule.result) c.clear.new.self.bytes c.put-in-DeleteRule.new.out.bytes c.put-in-DeleteRule.ensures.bytes c.clear.ensures.empty))

pub returns-in-Range-clause-executes : goal.returns-in-Range-clause-executes
returns-in-Range-clause-executes g c =
    rw c.in-Range.is (asks_execute c.args.reading (Range c.in-Range.key c.in-Range.latest (query_of c.in-Range.query)) c.args.db.now c.write_range.new.out.bytes
    (λ (h : DbState). range_response h.limits h.state c.in-Range.key c.in-Range.latest (query_of c.in-Range.query) (get c.in-Range.key h.state))
    (λ (h : DbState). AllowsOutOfMemory (range_response h.limits h.state c.in-Range.key c.in-Range.latest (query_of c.in-Range.query) (get c.in-Range.key h.state))) (λ from y. (refl, y))
    (λ from. record { says = refl; state = refl; limits = refl }) c.write_range.ensures.reply)

pub returns-in-MRange-clause-executes : goal.returns-in-MRange-clause-executes
returns-in-MRange-clause-executes g c =
    let asked = λ (fs : List Filter) (h : DbState). ranges_response h.limits h.state c.in-MRange.latest (show_of c.in-MRange.show) (query_of c.in-MRange.query) (option_map group_of c.in-MRange.group) (selection h.state fs) in
    rw c.in-MRange.is (asks_execute c.args.reading (MRange c.in-MRange.latest (show_of c.in-MRange.show) c.in-MRange.filters.items (query_of c.in-MRange.query) (option_map group_of c.in-MRange.group)) c.args.db.now c.write_ranges.new.out.bytes
    (asked c.in-MRange.filters.items) (λ (h : DbState). AllowsOutOfMemory (asked c.in-MRange.filters.items h)) (λ from y. (refl, y)) (λ from. record { says = refl; state = refl; limits = refl })
    (subst (λ (fs : List Filter). (from : DbState) → Represents c.args.db.now from → IsReplyText (asked fs from) c.write_ranges.new.out.bytes) c.deref.ensures.value c.write_ranges.ensures.reply))

pub returns-in-MGet-clause-executes : goal.returns-in-MGet-clause-executes
returns-in-MGet-clause-executes g c =
    let wanted = Last c.in-MGet.latest c.in-MGet.show in
    rw c.in-MGet.is (asks_execute c.args.reading (MGet c.in-MGet.latest (show_of c.in-MGet.show) c.in-MGet.filters.items) c.args.db.now c.write_members.new.out.bytes
    (λ (h : DbState). many_response h wanted c.in-MGet.filters.items) (λ (h : DbState). AllowsOutOfMemory (many_response h wanted c.in-MGet.filters.items)) (λ from y. (refl, y)) (λ from. record { says = refl; state = refl; limits = refl })
    (subst (λ (fs : List Filter). (from : DbState) → Represents c.args.db.now from → IsReplyText (many_response from wanted fs) c.write_members.new.out.bytes) c.deref-in-MGet.ensures.value c.write_members.ensures.reply))

pub returns-in-QueryIndex-clause-executes : goal.returns-in-QueryIndex-clause-executes
returns-in-QueryIndex-clause-executes g c =
    rw c.in-QueryIndex.is (asks_execute c.args.reading (QueryIndex c.in-QueryIndex.filters.items) c.args.db.now c.write_members-in-QueryIndex.new.out.bytes
    (λ (h : DbState). many_response h wanted.Key c.in-QueryIndex.filters.items) (λ (h : DbState). AllowsOutOfMemory (many_response h wanted.Key c.in-QueryIndex.filters.items)) (λ from y. (refl, y)) (λ from. record { says = refl; state = refl; limits = refl })
    (subst (λ (fs : List Filter). (from : DbState) → Represents c.args.db.now from → IsReplyText (many_response from wanted.Key fs) c.write_members-in-QueryIndex.new.out.bytes) c.deref-in-QueryIndex.ensures.value c.write_members-in-QueryIndex.ensures.reply))

pub returns-in-Get-clause-executes : goal.returns-in-Get-clause-executes
returns-in-Get-clause-executes g c =
    rw c.in-Get.is (asks_surely c.args.reading (Get c.in-Get.key c.in-Get.latest) c.args.db.now c.write_get.new.out.bytes
    (λ (h : DbState). last_response h.state c.in-Get.key c.in-Get.latest (get c.in-Get.key h.state)) (λ from. record { says = refl; state = refl; limits = refl }) c.write_get.ensures.reply)

pub returns-in-InfoOf-clause-executes : goal.returns-in-InfoOf-clause-executes
returns-in-InfoOf-clause-executes g c =
    rw c.in-InfoOf.is (asks_execute c.args.reading (InfoOf c.in-InfoOf.key) c.args.db.now c.write_info.new.out.bytes
    (λ (h : DbState). info_response h.state c.in-InfoOf.key (get c.in-InfoOf.key h.state))
    (λ (h : DbState). AllowsOutOfMemory (info_response h.state c.in-InfoOf.key (get c.in-InfoOf.key h.state))) (λ from y. (refl, y)) (λ from. record { says = refl; state = refl; limits = refl }) c.write_info.ensures.reply)

pub returns-in-Ping-clause-executes : goal.returns-in-Ping-clause-executes
returns-in-Ping-clause-executes g c =
    rw c.in-Ping.is (pings_execute c.args.reading c.in-Ping.word c.args.db.now c.write_pong.new.out.bytes c.write_pong.ensures.reply)

pub returns-in-Echo-clause-executes : goal.returns-in-Echo-clause-executes
returns-in-Echo-clause-executes g c =
    rw c.in-Echo.is (asks_execute c.args.reading (Echo c.in-Echo.word) c.args.db.now c.write_word.new.out.bytes (λ h. Word c.in-Echo.word) (λ h. IsTrue (may_run_out_of_memory (Echo c.in-Echo.word))) (λ from y. (y, tt)) (λ from. record { says = refl; state = refl; limits = refl })
    (λ from stands. c.write_word.ensures.reply))

pub returns-in-Quit-clause-executes : goal.returns-in-Quit-clause-executes
returns-in-Quit-clause-executes g c =
    rw c.in-Quit.is (executes_with c.args.reading Quit c.args.db.now (reply_of c.ok.result) c.put-in-Quit.new.out.bytes (λ from stands. record { says = c.ok.ensures; state = refl; limits = refl })
    (alone (reply_of c.ok.result) c.clear.new.self.bytes c.put-in-Quit.new.out.bytes c.put-in-Quit.ensures.bytes c.clear.ensures.empty))

pub returns-in-Drop-clause-executes : goal.returns-in-Drop-clause-executes
returns-in-Drop-clause-executes g c =
    rw c.in-Drop.is (sure_executes c.args.reading (Drop c.in-Drop.keys.items) c.args.db.now c.drop_keys.new.db (reply_of c.drop_keys.result) c.put-in-Drop.new.out.bytes
    (subst (λ (keys : List Key). Simulates c.args.db.now c.drop_keys.new.db (λ from to. IsStep (drop_keys from.state 0 keys) from (reply_of c.drop_keys.result) to)) c.deref-in-Drop.ensures.value c.drop_keys.ensures.answer)
    (alone (reply_of c.drop_keys.result) c.clear.new.self.bytes c.put-in-Drop.new.out.bytes c.put-in-Drop.ensures.bytes c.clear.ensures.empty))

pub returns-in-Exists-clause-executes : goal.returns-in-Exists-clause-executes
returns-in-Exists-clause-executes g c =
    rw c.in-Exists.is (executes_with c.args.reading (Exists c.in-Exists.keys.items) c.args.db.now (reply_of c.count_keys.result) c.put-in-Exists.new.out.bytes
    (λ from stands. record {
      says = c.count_keys.ensures.answer from stands ∙ ap (λ (keys : List Key). number (count_there from.state keys)) c.deref-in-Exists.ensures.value;
      state = refl;
      limits = refl;
    })
    (alone (reply_of c.count_keys.result) c.clear.new.self.bytes c.put-in-Exists.new.out.bytes c.put-in-Exists.ensures.bytes c.clear.ensures.empty))

-- ---- how many steps it takes

pub returns-in-Alter-clause-steps : goal.returns-in-Alter-clause-steps
returns-in-Alter-clause-steps g c = rw c.in-Alter.is c.alter.ensures.steps

pub returns-in-Add-clause-steps : goal.returns-in-Add-clause-steps
returns-in-Add-clause-steps g c =
    rw c.in-Add.is (subst (λ (t : ℕ). c.add.new.steps ≤ c.args.steps.now + write_steps c.args.db.now c.in-Add.key t) c.time_at.ensures.time c.add.ensures.steps)

pub returns-in-Incr-clause-steps : goal.returns-in-Incr-clause-steps
returns-in-Incr-clause-steps g c =
    rw c.in-Incr.is (subst (λ (t : ℕ). c.incr.new.steps ≤ c.args.steps.now + write_steps c.args.db.now c.in-Incr.key t) c.time_at-in-Incr.ensures.time c.incr.ensures.steps)

pub returns-in-Madd-clause-steps : goal.returns-in-Madd-clause-steps
returns-in-Madd-clause-steps g c = rw c.in-Madd.is tt

pub returns-in-DelRange-clause-steps : goal.returns-in-DelRange-clause-steps
returns-in-DelRange-clause-steps g c = rw c.in-DelRange.is c.delete.ensures.steps

pub returns-in-Range-clause-steps : goal.returns-in-Range-clause-steps
returns-in-Range-clause-steps g c = rw c.in-Range.is c.write_range.ensures.steps

pub returns-in-MRange-clause-steps : goal.returns-in-MRange-clause-steps
returns-in-MRange-clause-steps g c =
    rw c.in-MRange.is
    (subst (λ (fs : List Filter). c.write_ranges.new.steps ≤ c.args.steps.now + members_steps c.args.db.now fs c.in-MRange.query.from c.in-MRange.query.to)
    c.deref.ensures.value c.write_ranges.ensures.steps)

-- a selection that returns no rows
pub returns-in-MGet-clause-steps : goal.returns-in-MGet-clause-steps
returns-in-MGet-clause-steps g c =
    let db_view = c.args.db.now in
    rw c.in-MGet.is
    (subst (λ (fs : List Filter). c.write_members.new.steps ≤ c.args.steps.now + selection_steps db_view fs) c.deref-in-MGet.ensures.value
    (omega (arith, c.write_members.ensures.steps, sum-none (stored_selection db_view.keys c.deref-in-MGet.result.now))))

pub returns-in-QueryIndex-clause-steps : goal.returns-in-QueryIndex-clause-steps
returns-in-QueryIndex-clause-steps g c =
    let db_view = c.args.db.now in
    rw c.in-QueryIndex.is
    (subst (λ (fs : List Filter). c.write_members-in-QueryIndex.new.steps ≤ c.args.steps.now + selection_steps db_view fs) c.deref-in-QueryIndex.ensures.value
    (omega (arith, c.write_members-in-QueryIndex.ensures.steps, sum-none (stored_selection db_view.keys c.deref-in-QueryIndex.result.now))))

pub returns-in-InfoOf-clause-steps : goal.returns-in-InfoOf-clause-steps
returns-in-InfoOf-clause-steps g c = rw c.in-InfoOf.is c.write_info.ensures.steps
