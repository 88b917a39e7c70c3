use Rattle.std.proofs.Common.{◌≡◌, ◌≤◌, ◌++◌, length}
use Rattle.std.specs.VecDeque.{deque_len, deque_capacity}
use Rattle.ts_series.proofs.chunks.Chunks.grow_capacity.Given as goal

-- the chunks that moved and those that are left are the chunks, and all have room
abbrev pub invariant-loop-chunk : goal.invariant-loop-chunk
invariant-loop-chunk g l = record {
  items : l.larger.items ++ l.self-inside.chunks.items ≡ l.initial.self-inside.chunks.items;
  capacity : deque_capacity l.larger ≡ deque_capacity l.initial.larger;
  room : length l.initial.self-inside.chunks.items ≤ deque_capacity l.initial.larger;
  count : l.self-inside.count ≡ l.initial.self-inside.count;
}

abbrev pub decreases-loop-chunk : goal.decreases-loop-chunk
decreases-loop-chunk g l = deque_len l.self-inside.chunks
