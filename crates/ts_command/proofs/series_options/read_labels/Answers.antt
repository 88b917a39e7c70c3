use Rattle.std.proofs.Common.{◌∙◌, sym}
use Rattle.ts_command.proofs.LabelLemmas.{labels-next}
use Rattle.ts_command.proofs.series_options.read_labels.Goals as goal

pub loop-name-preserved : goal.loop-name-preserved
loop-name-preserved c =
    let name = c.in-Some.name.now in
    let value = c.in-Some-split_first.value.now in
    let next = c.in-Some-split_first.next.now in
    sym (labels-next c.loop-name.labels c.add_label.new.labels name value next c.in_ok-add_label.ensures)
    ∙ (rw (c.in-Some.ensures.cases.0, c.in-Some-split_first.ensures.cases.0) at c.loop-name.invariant)
