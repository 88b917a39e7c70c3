use Rattle.std.proofs.Common.{◌≡◌, ◌+◌, length}
use Rattle.ts_chunk_packed.specs.Packed.{number}
use Rattle.ts_chunk_packed.proofs.varint.width_wide.Given as goal

abbrev pub invariant-loop-rest : goal.invariant-loop-rest
invariant-loop-rest l = l.width + length (number l.rest) ≡ length (number l.natural)

abbrev pub decreases-loop-rest : goal.decreases-loop-rest
decreases-loop-rest l = l.rest
