use Rattle.std.proofs.Common.{subst}
use Rattle.ts_index.specs.Numbers.{AreInOrder}
use Rattle.ts_index.proofs.NumberLemmas.{AreInOrder-by_keys}
use Rattle.ts_index.proofs.index.Index.known.Goals as goal

pub returns : goal.returns
returns c = subst AreInOrder c.self.view_is (AreInOrder-by_keys c.self.inside.labels.entries c.len-len.ensures.ordered)
