use Rattle.std.proofs.Common.{◌≡◌, ◌-◌, drop}
use Rattle.std.specs.VecDeque.{deque_capacity}
use Rattle.ts_series.proofs.ring.remove_interval.Given as goal

-- so many items went from the front
abbrev pub invariant-loop : goal.invariant-loop
invariant-loop g l = record {
  items : l.ring.items ≡ drop (l.counter - l.start) l.initial.ring.items;
  capacity : deque_capacity l.ring ≡ deque_capacity l.initial.ring;
}
