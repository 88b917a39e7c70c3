use Rattle.ts_group.proofs.Placed.{within-first}
use Rattle.ts_group.proofs.summaries.SummaryIter.next.Goals as goal

pub invariant_of-self-2 : goal.invariant_of-self-2
invariant_of-self-2 c =
    within-first c.self.inside.slots.now c.self.inside.slot_indices c.next.new.self (c.in_ok-time.time.now, c.in_ok-time.list_index.now) c.in_ok-time.ensures.steps c.self.invariant
