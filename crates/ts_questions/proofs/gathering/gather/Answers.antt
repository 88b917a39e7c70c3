use Rattle.std.proofs.Common.{◌+◌, drop}
use Rattle.std.proofs.Math.ListN.{drop_of_length-le}
use Rattle.std.proofs.lemmas.List.{drop_more}
use Rattle.std.proofs.lemmas.Result.{err_from_is_err_and}
use Rattle.ts_questions.proofs.Gathered.{left-all, left-less, left-long, left-long-few, left-told, left-added, left-few}
use Rattle.ts_questions.proofs.gathering.gather.Goals as goal

pub loop-id-init : goal.loop-id-init
loop-id-init g c = left-all c.args.db.now c.args.group_query.now c.args.ids.now c.args.group.now c.args.before c.args.steps.now

pub loop-id-preserved : goal.loop-id-preserved
loop-id-preserved g c =
    left-less c.args.db.now c.args.group_query.now c.args.ids.now (drop c.loop-id.id-index c.args.ids.now) (drop (c.loop-id.id-index + 1) c.args.ids.now) _
    c.args.group.now c.loop-id.group c.gather_next.new.group c.args.before c.loop-id.lost c.in_ok-lost.lost c.args.steps.now c.loop-id.steps c.gather_next.new.steps
    (drop_more c.args.ids.now c.loop-id.id-index _ c.loop-id-test.true) c.loop-id.invariant
    c.in_ok-lost.ensures.few c.in_ok-lost.ensures.added c.in_ok-lost.ensures.stays c.gather_next.ensures.steps

pub returns-in_err-lost-clause-refused : goal.returns-in_err-lost-clause-refused
returns-in_err-lost-clause-refused g c =
    let p = err_from_is_err_and c.from_residual.result c.from_residual.ensures.1 in
    rw p.1 (
    left-long c.args.db.now c.args.group_query.now c.args.ids.now (drop c.loop-id.id-index c.args.ids.now) (drop (c.loop-id.id-index + 1) c.args.ids.now) _
    c.args.group.now c.loop-id.group c.gather_next.new.group c.args.before c.loop-id.lost c.loop-id.lost c.args.steps.now c.loop-id.steps c.gather_next.new.steps
    (drop_more c.args.ids.now c.loop-id.id-index _ c.loop-id-test.true) c.loop-id.invariant
    c.in_err-lost.ensures.refused)

pub returns-in_err-lost-clause-steps : goal.returns-in_err-lost-clause-steps
returns-in_err-lost-clause-steps g c =
    left-long-few c.args.db.now c.args.group_query.now c.args.ids.now (drop c.loop-id.id-index c.args.ids.now) (drop (c.loop-id.id-index + 1) c.args.ids.now) _
    c.args.group.now c.loop-id.group c.gather_next.new.group c.args.before c.loop-id.lost c.loop-id.lost c.args.steps.now c.loop-id.steps c.gather_next.new.steps
    (drop_more c.args.ids.now c.loop-id.id-index _ c.loop-id-test.true) c.loop-id.invariant
    c.gather_next.ensures.steps

pub returns-clause-few : goal.returns-clause-few
returns-clause-few g c =
    left-told c.args.db.now c.args.group_query.now c.args.ids.now (drop c.loop-id.id-index c.args.ids.now) c.args.group.now c.loop-id.group c.args.before c.loop-id.lost c.args.steps.now c.loop-id.steps
    (drop_of_length-le c.args.ids.now c.loop-id-test.false) c.loop-id.invariant

pub returns-clause-gathered : goal.returns-clause-gathered
returns-clause-gathered g c =
    left-added c.args.db.now c.args.group_query.now c.args.ids.now (drop c.loop-id.id-index c.args.ids.now) c.args.group.now c.loop-id.group c.args.before c.loop-id.lost c.args.steps.now c.loop-id.steps
    (drop_of_length-le c.args.ids.now c.loop-id-test.false) c.loop-id.invariant

pub returns-clause-stays : goal.returns-clause-stays
returns-clause-stays g c = c.loop-id.invariant.stays

pub returns-clause-steps : goal.returns-clause-steps
returns-clause-steps g c =
    left-few c.args.db.now c.args.group_query.now c.args.ids.now (drop c.loop-id.id-index c.args.ids.now) c.args.group.now c.loop-id.group c.args.before c.loop-id.lost c.args.steps.now c.loop-id.steps
    (drop_of_length-le c.args.ids.now c.loop-id-test.false) c.loop-id.invariant
