use Rattle.std.proofs.Common.{ap, ◌∙◌, sym, subst}
use Rattle.ts_spec.specs.Sample.{IsAscending}
use Rattle.ts_sample.specs.Chunk.{AreInBounds}
use Rattle.ts_chunk_plain.specs.Chunk.{Samples}
use Rattle.ts_chunk_plain.proofs.Scanning.{pieces_are}
use Rattle.ts_chunk_plain.proofs.chunk.PlainChunk.pieces.Goals as goal

pub returns : goal.returns
returns c =
    let are = pieces_are c.as_chunks.result.0.now c.as_slice.result.now c.self.inside.bytes.items c.as_chunks.ensures.front c.as_slice.ensures.value in
    record {
      list = are ∙ ap (λ (x : Samples). x.list) c.self.view_is;
      ascending = subst IsAscending (sym are) c.self.invariant.chunk.ascending;
      fine = subst AreInBounds (sym are) c.self.invariant.chunk.fine;
    }
