use Rattle.ts_chunk_packed.proofs.Pushing.{first_is}
use Rattle.ts_chunk_packed.proofs.chunk.PackedChunkChunk.first.Goals as goal

pub returns : goal.returns
returns c = first_is c.self.invariant.packed c.self.view_is
