use Rattle.std.proofs.Common.{◌+◌, drop}
use Rattle.std.proofs.Math.ListN.{drop_of_length-le}
use Rattle.std.proofs.lemmas.List.{drop_more}
use Rattle.ts_questions.proofs.Gathered.{unasked-all, unasked-less, unasked-long, unasked-few, unasked-none, unasked-none-few}
use Rattle.ts_questions.proofs.grouped.lost_unless_refused.Goals as goal

pub loop-id-init : goal.loop-id-init
loop-id-init g c = unasked-all c.args.db.now c.args.group_query.now c.args.ids.now c.args.steps.now

pub loop-id-preserved : goal.loop-id-preserved
loop-id-preserved g c =
    unasked-less c.args.db.now c.args.group_query.now c.args.ids.now (drop c.loop-id.id-index c.args.ids.now) (drop (c.loop-id.id-index + 1) c.args.ids.now) _ c.args.steps.now c.loop-id.steps c.is_number_refused.new.steps c.is_number_refused.result
    (drop_more c.args.ids.now c.loop-id.id-index _ c.loop-id-test.true) c.loop-id.invariant c.is_number_refused.ensures.refused c.is_number_refused.ensures.steps c.if-is_number_refused.false

pub returns-then-is_number_refused-clause-refused : goal.returns-then-is_number_refused-clause-refused
returns-then-is_number_refused-clause-refused g c =
    unasked-long c.args.db.now c.args.group_query.now c.args.ids.now (drop c.loop-id.id-index c.args.ids.now) (drop (c.loop-id.id-index + 1) c.args.ids.now) _ c.args.steps.now c.loop-id.steps c.is_number_refused.new.steps c.is_number_refused.result
    (drop_more c.args.ids.now c.loop-id.id-index _ c.loop-id-test.true) c.loop-id.invariant c.is_number_refused.ensures.refused c.is_number_refused.ensures.steps c.if-is_number_refused.true

pub returns-then-is_number_refused-clause-steps : goal.returns-then-is_number_refused-clause-steps
returns-then-is_number_refused-clause-steps g c =
    unasked-few c.args.db.now c.args.group_query.now c.args.ids.now (drop c.loop-id.id-index c.args.ids.now) (drop (c.loop-id.id-index + 1) c.args.ids.now) _ c.args.steps.now c.loop-id.steps c.is_number_refused.new.steps c.is_number_refused.result
    (drop_more c.args.ids.now c.loop-id.id-index _ c.loop-id-test.true) c.loop-id.invariant c.is_number_refused.ensures.refused c.is_number_refused.ensures.steps

pub returns-clause-few : goal.returns-clause-few
returns-clause-few g c =
    unasked-none c.args.db.now c.args.group_query.now c.args.ids.now (drop c.loop-id.id-index c.args.ids.now) c.args.steps.now c.loop-id.steps
    (drop_of_length-le c.args.ids.now c.loop-id-test.false) c.loop-id.invariant

pub returns-clause-steps : goal.returns-clause-steps
returns-clause-steps g c =
    unasked-none-few c.args.db.now c.args.group_query.now c.args.ids.now (drop c.loop-id.id-index c.args.ids.now) c.args.steps.now c.loop-id.steps
    (drop_of_length-le c.args.ids.now c.loop-id-test.false) c.loop-id.invariant
