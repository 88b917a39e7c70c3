use Rattle.std.proofs.Common.{◌-◌, ◌^◌, ◌<◌, ◌≤◌, drop, length}
use Rattle.ts_chunk_packed.proofs.Shortest.{IsPart}
use Rattle.ts_chunk_packed.proofs.untrusted.read_long.Given as goal

abbrev pub invariant-loop-at : goal.invariant-loop-at
invariant-loop-at l = record {
  small : l.number < l.weight;
  most : l.weight ≤ 2 ^ 63;
  part : IsPart l.bytes (drop l.at l.bytes) l.at l.number l.weight;
}

abbrev pub decreases-loop-at : goal.decreases-loop-at
decreases-loop-at l = length l.bytes - l.at
