use Rattle.std.proofs.Common.{◌≡◌, ◌+◌, ◌≤◌, length, vec_len}
use Rattle.std.specs.VecDeque.{deque_capacity}
use Rattle.ts_series.specs.Stored.{replaced}
use Rattle.ts_series.proofs.ring.overwrite_items.Given as goal

-- the items that are left, in their places, give what all of them do
abbrev pub invariant-loop-item : goal.invariant-loop-item
invariant-loop-item g l = record {
  items : replaced l.start (l.start + length l.items.items) l.items.items l.ring.items ≡ replaced l.start (l.start + length l.initial.items.items) l.initial.items.items l.initial.ring.items;
  within : l.start + length l.items.items ≤ length l.ring.items;
  capacity : deque_capacity l.ring ≡ deque_capacity l.initial.ring;
}

abbrev pub decreases-loop-item : goal.decreases-loop-item
decreases-loop-item g l = vec_len l.items
