use Rattle.std.proofs.Common.{◌-◌, sym, ◌∙◌, ap, subst, arith}
use Rattle.ts_spec.specs.Sample.{last_of}
use Rattle.ts_series.specs.Stored.{Stored, AreChunks}
use Rattle.ts_series.proofs.Meeting.{last-joined}
use Rattle.ts_series.proofs.Answering.{pieces-length, piece}
use Rattle.ts_series.proofs.chunks.Chunks.last.Goals as goal

pub returns-in-Some-clause-last : goal.returns-in-Some-clause-last
returns-in-Some-clause-last g c =
    let h = c.in-Some.ensures in
    let ok = c.self.inside.chunks.ok in
    let i = c.self.inside.chunks.len - 1 in
    let chunks = subst (λ (k : Stored). AreChunks g.C.Chunk.format k.pieces k.limits) c.self.view_is c.self.invariant.chunks in
    let it = piece g.C.Chunk.format g.C.Chunk.list g.C.Chunk.most c.self.inside.chunks.items _ c.self.inside.count c.args.self.now c.self.view_is c.self.invariant
    i c.in-Some.chunk.now (omega (arith, h.variant.0)) h.lookup in
    c.last.ensures ∙ ap last_of it.here
    ∙ sym (last-joined g.C.Chunk.format c.args.self.now.pieces c.args.self.now.limits chunks i (omega (arith, h.variant.0, pieces-length g.C.Chunk.list c.self.inside.chunks.items _ _ c.args.self.now c.self.view_is)))
