use Rattle.std.proofs.Common.{length}
use Rattle.ts_chunk_packed.proofs.Late.{OnTheWay}
use Rattle.ts_chunk_packed.proofs.chunk.PackedChunk.pass_before.Given as goal

abbrev pub invariant-loop-rest : goal.invariant-loop-rest
invariant-loop-rest l = OnTheWay l.time l.self.list l.rest l.marks

abbrev pub decreases-loop-rest : goal.decreases-loop-rest
decreases-loop-rest l = length l.rest.list
