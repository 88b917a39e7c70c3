use Rattle.std.proofs.Common.{◌≡◌, ◌≤◌, ◌+◌, ◌++◌, true, false, All, List, sym, subst, ◌∙◌, arith}
use Rattle.std.specs.Prelude.{sum_by}
use Rattle.std.specs.List.{list_any}
use Rattle.std.proofs.lemmas.Result.{err_from_is_err_and}
use Rattle.ts_spec.specs.Text.{text}
use Rattle.ts_sample.specs.declared.sample.Id.{Id}
use Rattle.ts_questions.specs.GroupQuery.{IsIdOfOneKey, is_too_long, id_steps, group_reply}
use Rattle.ts_questions.proofs.Gathered.{to-come-all, next-numbered, to-come-next, to-come-long, to-come-long-few, come-told, come-added, come-few}
use Rattle.ts_questions.proofs.grouped.add_groups.Goals as goal

pub loop-value-init : goal.loop-value-init
loop-value-init g c = record {
  groups = to-come-all c.args.db.now c.args.group_query.now c.args.ids.now c.into_iter-value-iterator.result c.begin_members-lost.new.out.bytes c.begin_members-lost.result c.args.steps.now
      (c.into_iter-value-iterator.ensures.into_iter_gives ∙ c.iter-value-items.ensures.rest ∙ c.in-Ok.ensures);
  room = c.begin_members-lost.ensures.room;
}

pub add_group-requires-clause-numbered : goal.add_group-requires-clause-numbered
add_group-requires-clause-numbered g c =
    subst (All (IsIdOfOneKey c.args.db.now.ids)) (sym c.all.ensures)
    (next-numbered c.args.db.now c.args.group_query.now c.args.ids.now c.loop-value.value-iterator c.next.new.self (c.in-Some.value.now, c.in-Some.numbers.now)
    c.begin_members-lost.new.out.bytes c.loop-value.out.bytes c.begin_members-lost.result c.loop-value.lost c.args.steps.now c.loop-value.steps
    c.in-Some.ensures.steps c.loop-value.invariant.groups c.requires.numbered)

pub loop-value-preserved : goal.loop-value-preserved
loop-value-preserved g c = record {
  groups = to-come-next c.args.db.now c.args.group_query.now c.args.ids.now c.loop-value.value-iterator c.next.new.self (c.in-Some.value.now, c.in-Some.numbers.now)
      c.begin_members-lost.new.out.bytes c.loop-value.out.bytes c.begin_members-lost.result c.loop-value.lost c.args.steps.now c.loop-value.steps
      c.in-Some.ensures.steps c.loop-value.invariant.groups c.add_group.new.out.bytes c.in_ok-lost.lost c.add_group.new.steps
      (subst (λ (l : List Id). list_any (is_too_long c.args.db.now c.args.group_query.now) l ≡ false) c.all.ensures c.in_ok-lost.ensures.few)
      (subst (λ (l : List Id). c.in_ok-lost.lost ≡ false → c.add_group.new.out.bytes ≡ c.loop-value.out.bytes ++ text (group_reply c.args.db.now c.args.group_query.now c.in-Some.value.now l)) c.all.ensures c.in_ok-lost.ensures.added)
      c.in_ok-lost.ensures.stays
      (subst (λ (l : List Id). c.add_group.new.steps ≤ c.loop-value.steps + sum_by (id_steps c.args.db.now c.args.group_query.now) l) c.all.ensures c.add_group.ensures.steps);
  room = omega (arith, c.loop-value.invariant.room, c.add_group.ensures.room);
}

pub returns-in_err-lost-clause-refused : goal.returns-in_err-lost-clause-refused
returns-in_err-lost-clause-refused g c =
    let p = err_from_is_err_and c.from_residual.result c.from_residual.ensures.1 in
    rw p.1 (to-come-long c.args.db.now c.args.group_query.now c.args.ids.now c.loop-value.value-iterator c.next.new.self (c.in-Some.value.now, c.in-Some.numbers.now)
    c.begin_members-lost.new.out.bytes c.loop-value.out.bytes c.begin_members-lost.result c.loop-value.lost c.args.steps.now c.loop-value.steps
    c.in-Some.ensures.steps c.loop-value.invariant.groups
    (subst (λ (l : List Id). list_any (is_too_long c.args.db.now c.args.group_query.now) l ≡ true) c.all.ensures c.in_err-lost.ensures.refused))

pub returns-in_err-lost-clause-steps : goal.returns-in_err-lost-clause-steps
returns-in_err-lost-clause-steps g c =
    to-come-long-few c.args.db.now c.args.group_query.now c.args.ids.now c.loop-value.value-iterator c.next.new.self (c.in-Some.value.now, c.in-Some.numbers.now)
    c.begin_members-lost.new.out.bytes c.loop-value.out.bytes c.begin_members-lost.result c.loop-value.lost c.args.steps.now c.loop-value.steps
    c.in-Some.ensures.steps c.loop-value.invariant.groups c.add_group.new.steps
    (subst (λ (l : List Id). c.add_group.new.steps ≤ c.loop-value.steps + sum_by (id_steps c.args.db.now c.args.group_query.now) l) c.all.ensures c.add_group.ensures.steps)

pub returns-in_err-lost-clause-room : goal.returns-in_err-lost-clause-room
returns-in_err-lost-clause-room g c = omega (arith, c.loop-value.invariant.room, c.add_group.ensures.room)

pub returns-clause-few : goal.returns-clause-few
returns-clause-few g c =
    come-told c.args.db.now c.args.group_query.now c.args.ids.now c.loop-value.value-iterator
    c.begin_members-lost.new.out.bytes c.loop-value.out.bytes c.begin_members-lost.result c.loop-value.lost c.args.steps.now c.loop-value.steps
    c.in-None.ensures.steps.0 c.loop-value.invariant.groups

pub returns-clause-added : goal.returns-clause-added
returns-clause-added g c = λ kept.
    come-added c.args.db.now c.args.group_query.now c.args.ids.now c.loop-value.value-iterator
    c.begin_members-lost.new.out.bytes c.loop-value.out.bytes c.begin_members-lost.result c.loop-value.lost c.args.steps.now c.loop-value.steps
    c.in-None.ensures.steps.0 c.loop-value.invariant.groups
    c.args.out.now.bytes c.len.result c.in-Ok.groups.entries kept c.begin_members-lost.ensures.begun c.len.ensures.len c.in-Ok.ensures

pub returns-clause-steps : goal.returns-clause-steps
returns-clause-steps g c =
    come-few c.args.db.now c.args.group_query.now c.args.ids.now c.loop-value.value-iterator
    c.begin_members-lost.new.out.bytes c.loop-value.out.bytes c.begin_members-lost.result c.loop-value.lost c.args.steps.now c.loop-value.steps
    c.in-None.ensures.steps.0 c.loop-value.invariant.groups
