use Rattle.std.proofs.Common.{[], length, map, ap, subst, arith}
use Rattle.std.specs.Prelude.{slice_index, slice_index_or}
use Rattle.ts_sample.specs.Chunk.{IsChunk}
use Rattle.ts_series.specs.Stored.{Stored}
use Rattle.ts_series.proofs.Joined.{chunk-at}
use Rattle.ts_series.proofs.chunks.Chunks.chunk.Goals as goal

pub returns-clause-chunk : goal.returns-clause-chunk
returns-clause-chunk g c =
    let i = c.args.index in
    let items = c.self.inside.chunks.items in
    let format = g.C.Chunk.format in
    subst (λ (h : Stored). IsChunk format (slice_index h.limits i) (slice_index_or h.pieces i [])) c.self.view_is
    (chunk-at format i (map g.C.Chunk.list items) (map g.C.Chunk.most items) c.self.invariant.chunks (omega (arith, c.requires, ap (λ (h : Stored). length h.pieces) c.self.view_is)))
