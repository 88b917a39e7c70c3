use Rattle.ts_index.proofs.NumberLemmas.{AreInOrder-by_keys}
use Rattle.ts_index.proofs.index.swap.Goals as goal

pub returns-in-Some-clause-order : goal.returns-in-Some-clause-order
returns-in-Some-clause-order c = AreInOrder-by_keys (c.get_mut.follows.lender c.args.new).entries (c.get_mut.follows.holds c.args.new).4
