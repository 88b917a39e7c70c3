use Rattle.std.proofs.Common.{◌-◌, ◌^◌, ◌<◌, drop, length}
use Rattle.ts_chunk_packed.proofs.Ungrouping.{IsReading}
use Rattle.ts_chunk_packed.proofs.varint.read_long.Given as goal

abbrev pub invariant-loop-at : goal.invariant-loop-at
invariant-loop-at l = record { inside : l.at < length l.bytes; reading : IsReading (2 ^ 64) l.bytes (drop l.at l.bytes) l.number l.weight }

abbrev pub decreases-loop-at : goal.decreases-loop-at
decreases-loop-at l = length l.bytes - l.at
