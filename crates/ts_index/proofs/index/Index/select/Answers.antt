use Rattle.ts_spec.specs.Filter.{all_hold}
use Rattle.ts_index.proofs.SelectLemmas.{selected-sorted}
use Rattle.ts_index.proofs.index.Index.select.Goals as goal

pub returns-clause-selected : goal.returns-clause-selected
returns-clause-selected g c =
    selected-sorted (all_hold c.args.filters.now) c.args.self.now c.take.new.ids.items c.sort_unstable.new.self.items c.known.ensures
    c.take.ensures.selected c.sort_unstable.ensures.permutation c.sort_unstable.ensures.sorted
