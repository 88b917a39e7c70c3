use Rattle.std.proofs.Common.{◌≤◌, ◌+◌, ◌++◌, length, vec_len, vec_capacity}
use Rattle.ts_spec.specs.Filter.{all_hold}
use Rattle.ts_index.specs.Selecting.{AreSelected}
use Rattle.ts_index.proofs.index.Index.collect_matching.Given as goal

-- The ids so far and the remaining ones are all that pass. Capacity suffices for the rest.
abbrev pub invariant-loop-id : goal.invariant-loop-id
invariant-loop-id l = record {
  selected : AreSelected (all_hold l.filters) l.self (l.ids.items ++ l.id-iterator);
  room : vec_len l.ids + length l.id-iterator ≤ vec_capacity l.ids;
}
