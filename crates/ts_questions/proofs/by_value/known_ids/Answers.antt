use Rattle.std.proofs.Common.{◌+◌, All, drop, sym, subst}
use Rattle.std.proofs.Math.ListN.{drop_of_length-le}
use Rattle.std.proofs.lemmas.List.{drop_more}
use Rattle.std.proofs.lemmas.List.Elements.{All-nil, All-cons}
use Rattle.ts_questions.specs.GroupQuery.{IsIdOfOneKey}
use Rattle.ts_questions.proofs.by_value.known_ids.Goals as goal

pub loop-id-init : goal.loop-id-init
loop-id-init c = λ all. all

pub loop-id-preserved : goal.loop-id-preserved
loop-id-preserved c = λ all.
    c.loop-id.invariant (subst (All (IsIdOfOneKey c.args.db.now.ids)) (sym (drop_more c.args.ids.now c.loop-id.id-index _ c.loop-id-test.true))
    (All-cons (IsIdOfOneKey c.args.db.now.ids) _ (drop (c.loop-id.id-index + 1) c.args.ids.now) c.known_id.ensures all))

pub returns : goal.returns
returns c =
    c.loop-id.invariant (subst (All (IsIdOfOneKey c.args.db.now.ids)) (sym (drop_of_length-le c.args.ids.now c.loop-id-test.false)) (All-nil (IsIdOfOneKey c.args.db.now.ids)))
