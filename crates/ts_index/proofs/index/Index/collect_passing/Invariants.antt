use Rattle.std.proofs.Common.{◌≤◌, ◌+◌, ◌*◌, ◌++◌, length, vec_len, vec_capacity}
use Rattle.ts_spec.specs.Filter.{all_hold}
use Rattle.ts_index.specs.Bounds.{selection_steps}
use Rattle.ts_index.specs.Selecting.{AreSelected, lent}
use Rattle.ts_index.proofs.SelectLemmas.{chosen}
use Rattle.ts_index.proofs.index.Index.collect_passing.Given as goal

-- The ids so far and the remaining ones that pass are all that pass. Capacity and steps suffice for the rest.
abbrev pub invariant-loop-id : goal.invariant-loop-id
invariant-loop-id g l = record {
  selected : AreSelected (all_hold l.filters) l.self (l.ids.items ++ chosen (all_hold (lent l.tests)) l.self l.id-iterator);
  room : vec_len l.ids + length l.id-iterator ≤ vec_capacity l.ids;
  steps : l.steps + length l.tests * length l.id-iterator ≤ l.fn.steps + selection_steps l.self l.filters;
}
