use Rattle.std.proofs.Common.{ℕ, List, Some, sym, ap, ◌∙◌}
use Rattle.ts_multi.proofs.LabelLists.{shown-at}
use Rattle.ts_multi.proofs.shown.label_at.Goals as goal

pub returns : goal.returns
returns c =
    shown-at c.args.labels.now c.args.list_index c.bytes.result.now c.bytes-2.result.now
    (c.label_at.ensures ∙ ap (λ (l : List ℕ). Some l) (sym c.bytes.ensures)) (c.value_at.ensures ∙ ap (λ (l : List ℕ). Some l) (sym c.bytes-2.ensures))
