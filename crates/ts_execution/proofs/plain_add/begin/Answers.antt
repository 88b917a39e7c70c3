use Rattle.std.proofs.Common.{inl, inr, refl, sym, ◌∙◌, ap, subst}
use Rattle.ts_spec.specs.Command.{Spec}
use Rattle.ts_spec.specs.Key.{Key}
use Rattle.ts_spec.specs.Keyed.{get}
use Rattle.ts_spec.specs.Settings.{nothing}
use Rattle.ts_spec.specs.SeriesOptions.{spec}
use Rattle.ts_spec.specs.Replies.{reply_to}
use Rattle.ts_spec.specs.Step.{Outcome, add}
use Rattle.ts_resp.specs.Replies.{reply_of}
use Rattle.ts_db.specs.DbState.{Simulates}
use Rattle.ts_execution.specs.Handling.{StepOrOutOfMemory}
use Rattle.ts_execution.proofs.Carried.{carries_none}
use Rattle.ts_execution.proofs.MissingKey.{add-full, add-yields}
use Rattle.ts_execution.proofs.plain_add.begin.Goals as goal

pub returns-in-Ok-clause-answer : goal.returns-in-Ok-clause-answer
returns-in-Ok-clause-answer g c =
    let a = c.args.addition.now in
    let reply = reply_of c.add.result in
    subst (λ (key : Key). Simulates c.args.db.now c.add.new.db (λ from to. StepOrOutOfMemory (add from.limits from.state key c.args.time a.value a.on (spec nothing)) from reply to)) c.in-Ok.ensures.bytes
    (subst (λ (s : Spec). Simulates c.args.db.now c.add.new.db (λ from to. StepOrOutOfMemory (add from.limits from.state c.in-Ok.key c.args.time a.value a.on s) from reply to)) c.spec.ensures c.add.ensures.answer)

pub returns-then-is_full-clause-answer : goal.returns-then-is_full-clause-answer
returns-then-is_full-clause-answer g c =
    let a = c.args.addition.now in
    let reply = reply_of c.refusal_reply.result in
    carries_none c.args.db.now (λ from to. StepOrOutOfMemory (add from.limits from.state a.key.now c.args.time a.value a.on (spec nothing)) from reply to)
    (λ from stands.
    let is = add-full from.limits from.state a.key.now c.args.time a.value a.on (spec nothing) refl (get a.key.now from.state) c.is_full.result (c.requires.missing from stands) (c.is_full.ensures.each from stands) c.if-is_full.true in
    inl (record {
      says = c.refusal_reply.ensures.reply c.args.db.now.ids ∙ ap (λ (s : Outcome). reply_to s.response) (sym is);
      state = ap (λ (s : Outcome). s.state) (sym is);
      limits = refl;
    }))

pub returns-else-is_full-clause-answer : goal.returns-else-is_full-clause-answer
returns-else-is_full-clause-answer g c =
    let a = c.args.addition.now in
    let reply = reply_of c.refusal_reply-in-Err.result in
    carries_none c.args.db.now (λ from to. StepOrOutOfMemory (add from.limits from.state a.key.now c.args.time a.value a.on (spec nothing)) from reply to)
    (λ from stands. inr (
      add-yields from.limits from.state a.key.now c.args.time a.value a.on (spec nothing) refl (get a.key.now from.state) c.is_full.result (c.requires.missing from stands) (c.is_full.ensures.each from stands) c.if-is_full.false,
      record { says = c.refusal_reply-in-Err.ensures.reply c.args.db.now.ids; same = refl },
    ))
