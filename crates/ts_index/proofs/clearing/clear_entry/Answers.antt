use Rattle.std.proofs.Common.{sym, rules}
use Rattle.ts_index.proofs.NumberLemmas.{AreInOrder-by_keys}
use Rattle.ts_index.proofs.LosingLemmas.{entry-cleared, entry-missing}
use Rattle.ts_index.proofs.clearing.clear_entry.Goals as goal

pub returns-in-Some-clause-cleared : goal.returns-in-Some-clause-cleared
returns-in-Some-clause-cleared c = λ i.
    entry-cleared c.args.id.0 i c.args.labels.now.entries (c.get_mut.follows.lender c.new.result).entries c.new.result c.in-Some.kept.now c.new.ensures (sym c.in-Some.ensures.value)
    (((c.get_mut.follows.holds c.new.result).3 (search rules)).0 i)

pub returns-in-Some-clause-order : goal.returns-in-Some-clause-order
returns-in-Some-clause-order c = AreInOrder-by_keys (c.get_mut.follows.lender c.new.result).entries (c.get_mut.follows.holds c.new.result).4

pub returns-in_default-clause-cleared : goal.returns-in_default-clause-cleared
returns-in_default-clause-cleared c = rw c.get_mut.follows.holds-at-none (λ i. entry-missing c.args.id.0 i c.args.labels.now.entries (sym c.in_default.ensures.value))
