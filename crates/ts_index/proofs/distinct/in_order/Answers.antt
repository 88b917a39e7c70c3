use Rattle.std.proofs.Common.{◌∙◌, List, ap}
use Rattle.std.proofs.lemmas.List.{take_all}
use Rattle.ts_spec.specs.Filter.{Filter, all_hold}
use Rattle.ts_index.proofs.DistinctLemmas.{all-permuted}
use Rattle.ts_index.proofs.distinct.in_order.Goals as goal

pub returns-clause-same : goal.returns-clause-same
returns-clause-same c = λ labels.
    all-permuted c.loop-filter.sorted.items c.sort_unstable_by.new.self.items c.sort_unstable_by.ensures.permutation labels
    ∙ ap (λ (fs : List Filter). all_hold fs labels) (c.loop-filter.invariant ∙ take_all c.loop-filter.filter-index c.args.filters.now c.loop-filter-test.false)
