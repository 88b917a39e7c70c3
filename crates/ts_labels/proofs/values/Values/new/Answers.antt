use Rattle.std.proofs.Common.{◌∙◌}
use Rattle.ts_labels.proofs.ValueLemmas.{sorted-values}
use Rattle.ts_labels.proofs.values.Values.new.Goals as goal

pub invariant_of-result : goal.invariant_of-result
invariant_of-result c =
    sorted-values c.args.named.items c.in_ok-sorted.sorted.items c.sort_unstable.new.self.items c.dedup.new.self.items (c.in_ok-sorted.ensures ∙ c.as_slice.ensures.value)
    c.sort_unstable.ensures.permutation c.sort_unstable.ensures.sorted c.dedup.ensures.filtered
