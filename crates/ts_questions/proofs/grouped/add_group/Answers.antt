use Rattle.std.proofs.Common.{[], map, sym, ◌∙◌}
use Rattle.ts_questions.specs.GroupQuery.{numbered}
use Rattle.ts_questions.proofs.Gathered.{not-lost}
use Rattle.ts_questions.proofs.grouped.add_group.Goals as goal

pub returns-clause-added : goal.returns-clause-added
returns-clause-added g c = λ kept.
    not-lost c.encode_group_of.result _ (sym c.is_lost.ensures ∙ kept)
    (c.encode_group_of.ensures.ok (map (numbered c.args.db.now c.args.group_query.now) c.args.ids.now) (c.in_ok-lost.ensures.gathered c.if-lost.false [] c.new-group.ensures))
