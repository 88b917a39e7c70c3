use Rattle.std.proofs.Common.{arith}
use Rattle.ts_chunk_plain.proofs.Reading.{fine_here, next_here}
use Rattle.ts_chunk_plain.proofs.chunk.PlainChunkChunk.read.Goals as goal

pub decode-requires : goal.decode-requires
decode-requires g c =
    let here = c.in_ok-piece.ensures.lookup in
    fine_here c.pieces.result.now c.args.place.now c.in_ok-piece.piece.now (omega arith) here.1 c.pieces.ensures.fine

pub returns-clause-next : goal.returns-clause-next
returns-clause-next g c =
    let here = c.in_ok-piece.ensures.lookup in
    next_here c.pieces.result.now c.args.place.now c.in_ok-piece.piece.now (omega arith) here.1 c.args.self.now.list c.pieces.ensures.list c.decode.result c.decode.ensures
