use Rattle.ts_chunk_plain.proofs.Reading.{left_from}
use Rattle.ts_chunk_plain.proofs.chunk.PlainChunkChunk.place_from.Goals as goal

pub returns-clause-left : goal.returns-clause-left
returns-clause-left g c =
    left_from c.pieces.result.now c.args.self.now.list c.lower_bound.result c.args.time c.pieces.ensures.list c.lower_bound.ensures.after
