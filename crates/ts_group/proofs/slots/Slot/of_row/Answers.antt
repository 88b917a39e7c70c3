use Rattle.std.proofs.Common.{[]}
use Rattle.ts_group.proofs.slots.Slot.of_row.Goals as goal

pub returns-clause-counted : goal.returns-clause-counted
returns-clause-counted c = c.in_ok-count.ensures [] c.new-running.ensures
