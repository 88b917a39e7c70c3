use Rattle.std.proofs.Common.{map, flat_map, ap, ◌∙◌}
use Rattle.ts_spec.specs.Groups.{Labelled}
use Rattle.ts_labels.specs.Show.{show_of}
use Rattle.ts_command.specs.GroupBy.{group_of}
use Rattle.ts_group.specs.declared.one_group.Group.{Group}
use Rattle.ts_group.proofs.Joining.{sources-joined}
use Rattle.ts_group.proofs.OneGroup.{member-reply_parts}
use Rattle.ts_group.proofs.one_group.Group.reply_parts.Goals as goal

pub returns : goal.returns
returns c = λ show. λ ms. λ is.
    member-reply_parts (group_of c.args.options.now.by.now) (show_of show) c.args.options.now.count c.args.options.now.reverse ms c.bytes.result.now c.args.value.now c.bytes-2.result.now c.bytes-3.result.now c.rows-rows.result
    c.bytes.ensures c.bytes-2.ensures
    (c.bytes-3.ensures (map (λ (m : Labelled). m.key) ms) (ap (λ (g : Group). g.sources) is) ∙ sources-joined ms)
    (c.rows-rows.ensures (flat_map (λ (m : Labelled). m.rows) ms) (λ kept. ap (λ (g : Group). g.reduction.summaries) is) (ap (λ (g : Group). g.reduction.lost) is))
