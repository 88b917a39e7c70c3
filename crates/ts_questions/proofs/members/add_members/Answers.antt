use Rattle.std.proofs.Common.{◌+◌, ◌++◌, drop, length, refl, arith}
use Rattle.std.proofs.Math.ListN.{drop_of_length-le}
use Rattle.std.proofs.lemmas.List.{drop_more}
use Rattle.std.proofs.lemmas.Result.{err_from_is_err_and}
use Rattle.std.specs.Fmt.{decimal}
use Rattle.ts_spec.specs.Text.{line_text, text}
use Rattle.ts_questions.specs.Members.{reply_at}
use Rattle.ts_questions.proofs.ManyTexts.{so-far-none, so-far-more, none-told, all-told}
use Rattle.ts_questions.specs.Bounds.{content_steps}
use Rattle.ts_questions.proofs.MemberBounds.{left-all, left-less, left-few}
use Rattle.ts_questions.proofs.members.add_members.Goals as goal

pub loop-id-init : goal.loop-id-init
loop-id-init g c = record {
  told = λ keys are. so-far-none text (reply_at c.args.db.now.limits c.args.db.now.keys c.args.wanted.now) c.args.db.now.ids keys c.args.ids.now
      (c.args.out.now.bytes ++ line_text 42 (decimal (length c.args.ids.now))) c.begin_members-lost.new.out.bytes c.begin_members-lost.result are c.begin_members-lost.ensures.begun;
  steps = λ keys are. left-all (content_steps c.args.db.now c.args.wanted.now) c.args.db.now.ids keys c.args.ids.now c.args.steps.now are;
  room = c.begin_members-lost.ensures.room;
}

pub returns-in_err-lost-clause-steps : goal.returns-in_err-lost-clause-steps
returns-in_err-lost-clause-steps g c = λ keys are.
    let most = content_steps c.args.db.now c.args.wanted.now in
    let ids = c.args.db.now.ids in
    left-few most ids keys (drop (c.loop-id.id-index + 1) c.args.ids.now) c.args.steps.now c.add_next.new.steps
    (left-less most ids keys _ (drop c.loop-id.id-index c.args.ids.now) (drop (c.loop-id.id-index + 1) c.args.ids.now) c.args.steps.now c.loop-id.steps c.add_next.new.steps
    (drop_more c.args.ids.now c.loop-id.id-index _ c.loop-id-test.true) (c.loop-id.invariant.steps keys are) c.add_next.ensures.steps)

pub returns-in_err-lost-clause-refused : goal.returns-in_err-lost-clause-refused
returns-in_err-lost-clause-refused g c =
    let p = err_from_is_err_and c.from_residual.result c.from_residual.ensures.1 in
    rw p.1 (λ keys are.
    none-told text (reply_at c.args.db.now.limits c.args.db.now.keys c.args.wanted.now) c.args.db.now.ids keys _
    (drop c.loop-id.id-index c.args.ids.now) (drop (c.loop-id.id-index + 1) c.args.ids.now)
    (c.args.out.now.bytes ++ line_text 42 (decimal (length c.args.ids.now))) c.loop-id.out.bytes c.loop-id.lost
    (drop_more c.args.ids.now c.loop-id.id-index _ c.loop-id-test.true)
    (c.loop-id.invariant.told keys are)
    c.in_err-lost.ensures.refused)

pub loop-id-preserved : goal.loop-id-preserved
loop-id-preserved g c = record {
  told = λ keys are. so-far-more text (reply_at c.args.db.now.limits c.args.db.now.keys c.args.wanted.now) c.args.db.now.ids keys _
      (drop c.loop-id.id-index c.args.ids.now) (drop (c.loop-id.id-index + 1) c.args.ids.now)
      (c.args.out.now.bytes ++ line_text 42 (decimal (length c.args.ids.now))) c.loop-id.out.bytes c.add_next.new.out.bytes c.loop-id.lost c.in_ok-lost.lost
      (drop_more c.args.ids.now c.loop-id.id-index _ c.loop-id-test.true)
      (c.loop-id.invariant.told keys are)
      c.in_ok-lost.ensures.stays
      c.in_ok-lost.ensures.added;
  steps = λ keys are. left-less (content_steps c.args.db.now c.args.wanted.now) c.args.db.now.ids keys _
      (drop c.loop-id.id-index c.args.ids.now) (drop (c.loop-id.id-index + 1) c.args.ids.now)
      c.args.steps.now c.loop-id.steps c.add_next.new.steps
      (drop_more c.args.ids.now c.loop-id.id-index _ c.loop-id-test.true)
      (c.loop-id.invariant.steps keys are)
      c.add_next.ensures.steps;
  room = omega (arith, c.loop-id.invariant.room, c.add_next.ensures.room);
}

pub returns-clause-added : goal.returns-clause-added
returns-clause-added g c = λ keys are.
    all-told (reply_at c.args.db.now.limits c.args.db.now.keys c.args.wanted.now) c.args.db.now.ids keys c.args.ids.now (drop c.loop-id.id-index c.args.ids.now)
    c.args.out.now.bytes (c.args.out.now.bytes ++ line_text 42 (decimal (length c.args.ids.now))) c.loop-id.out.bytes c.loop-id.lost are
    (drop_of_length-le c.args.ids.now c.loop-id-test.false)
    refl
    (c.loop-id.invariant.told keys are)

pub returns-clause-steps : goal.returns-clause-steps
returns-clause-steps g c = λ keys are.
    left-few (content_steps c.args.db.now c.args.wanted.now) c.args.db.now.ids keys (drop c.loop-id.id-index c.args.ids.now) c.args.steps.now c.loop-id.steps (c.loop-id.invariant.steps keys are)
