use Rattle.std.proofs.Common.{◌-◌, ◌^◌, ◌<◌, ◌≤◌, drop, length}
use Rattle.ts_chunk_packed.proofs.Ungrouping.{IsReading}
use Rattle.ts_chunk_packed.proofs.coding.value_after_long.Given as goal

abbrev pub invariant-loop-weight : goal.invariant-loop-weight
invariant-loop-weight l = record {
  inside : l.at < length l.bytes;
  reading : IsReading (2 ^ 120) l.bytes (drop l.at l.bytes) l.number l.weight;
  small : l.number < l.weight;
  most : l.weight ≤ 2 ^ 63;
}

abbrev pub decreases-loop-weight : goal.decreases-loop-weight
decreases-loop-weight l = length l.bytes - l.at
