use Rattle.std.proofs.Common.{◌≡◌, ◌≤◌, ◌++◌, length, vec_len}
use Rattle.std.specs.VecDeque.{deque_capacity}
use Rattle.ts_series.proofs.ring.insert_before.Given as goal

-- the items that are left, and then the ring, are all of both
abbrev pub invariant-loop-items : goal.invariant-loop-items
invariant-loop-items g l = record {
  items : l.items.items ++ l.ring.items ≡ l.initial.items.items ++ l.initial.ring.items;
  enough : l.left ≤ length l.items.items;
  capacity : deque_capacity l.ring ≡ deque_capacity l.initial.ring;
}

abbrev pub decreases-loop-items : goal.decreases-loop-items
decreases-loop-items g l = vec_len l.items
