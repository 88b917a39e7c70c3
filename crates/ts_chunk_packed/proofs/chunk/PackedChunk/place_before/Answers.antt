use Rattle.ts_chunk_packed.proofs.Placing.{placed}
use Rattle.ts_chunk_packed.proofs.chunk.PackedChunk.place_before.Goals as goal

pub returns : goal.returns
returns c =
    let of = c.requires in
    let is = placed c.args.self.now.list c.args.rest.now of c.after.result c.context.result.now c.place_of.result.at c.place_of.result.count c.context.ensures (c.place_of.ensures of)
    c.after.ensures.state c.after.ensures.at c.after.ensures.count c.after.ensures.none in
    record { place = is.0; passed = is.1 }
