use Rattle.std.proofs.Common.{List, sym, ap, ◌∙◌}
use Rattle.std.proofs.lemmas.Result.{on_ok_weaker}
use Rattle.ts_spec.specs.Filter.{value_of}
use Rattle.ts_spec.specs.State.{Label}
use Rattle.ts_db.specs.Faults.{key_of_id}
use Rattle.ts_questions.specs.GroupQuery.{numbered}
use Rattle.ts_group.proofs.Sorted.{sorted-kept}
use Rattle.ts_questions.proofs.by_value.add_id.Goals as goal

pub labels_of-requires : goal.labels_of-requires
labels_of-requires c = record { key = key_of_id c.args.db.now.ids c.args.id; is = c.requires.is }

pub returns-in-None : goal.returns-in-None
returns-in-None c = λ ns are.
    sorted-kept (numbered c.args.db.now c.args.group_query.now) c.args.group_query.now.by.label c.args.groups.now.entries ns c.args.id
    (ap (λ (labels : List Label). value_of c.args.group_query.now.by.label labels) (sym (c.labels_of.ensures.labels (key_of_id c.args.db.now.ids c.args.id) c.requires.is)) ∙ sym c.in-None.ensures) are

pub returns-in-Some : goal.returns-in-Some
returns-in-Some c =
    on_ok_weaker c.add_to.result
    (λ h. λ ns are. h (numbered c.args.db.now c.args.group_query.now) c.args.group_query.now.by.label ns
    (ap (λ (labels : List Label). value_of c.args.group_query.now.by.label labels) (sym (c.labels_of.ensures.labels (key_of_id c.args.db.now.ids c.args.id) c.requires.is)) ∙ sym c.in-Some.ensures) are)
    c.add_to.ensures
