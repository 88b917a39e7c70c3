use Rattle.ts_labels.proofs.ValueLemmas.{once-sorted}
use Rattle.ts_labels.proofs.values.Values.each_once.Goals as goal

pub returns-clause-once : goal.returns-clause-once
returns-clause-once c = rw c.as_slice.ensures.value (once-sorted c.self.inside.sorted.items c.self.invariant.ascending)
