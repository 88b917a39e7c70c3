use Rattle.std.proofs.Common.{◌<◌, ◌-◌, sym, ◌∙◌, ap, subst, arith}
use Rattle.ts_spec.specs.Sample.{last_of}
use Rattle.ts_series.specs.Stored.{Stored, AreChunks}
use Rattle.ts_series.proofs.Answering.{pieces-length, piece, last-first}
use Rattle.ts_series.proofs.chunks.Chunks.last_of_first.Goals as goal

pub returns : goal.returns
returns g c =
    let i = c.args.count - 1 in
    let chunks = subst (λ (k : Stored). AreChunks g.C.Chunk.format k.pieces k.limits) c.self.view_is c.self.invariant.chunks in
    let some : 0 < c.args.count = omega (arith, c.if-count-eq0.false) in
    let it = piece g.C.Chunk.format g.C.Chunk.list g.C.Chunk.most c.self.inside.chunks.items _ c.self.inside.count c.args.self.now c.self.view_is c.self.invariant
    i c.index.result.now (omega (arith, pieces-length g.C.Chunk.list c.self.inside.chunks.items _ _ c.args.self.now c.self.view_is, c.requires.within)) c.index.ensures in
    record { last = c.last.ensures ∙ ap last_of it.here ∙ sym (last-first g.C.Chunk.format c.args.self.now.pieces c.args.self.now.limits chunks i c.args.count (omega arith) c.requires.within) }
