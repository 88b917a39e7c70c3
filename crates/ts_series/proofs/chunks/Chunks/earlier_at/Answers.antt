use Rattle.std.proofs.Common.{length, ap, arith}
use Rattle.ts_series.proofs.Joined.{longest-at}
use Rattle.ts_series.proofs.Answering.{piece}
use Rattle.ts_series.proofs.chunks.Chunks.earlier_at.Goals as goal

pub returns-in-Some-clause-steps : goal.returns-in-Some-clause-steps
returns-in-Some-clause-steps g c =
    let h = c.in-Some.ensures in
    let ok = c.self.inside.chunks.ok in
    let it = piece g.C.Chunk.format g.C.Chunk.list g.C.Chunk.most c.self.inside.chunks.items _ c.self.inside.count c.args.self.now c.self.view_is c.self.invariant
    c.args.place c.in-Some.chunk.now (omega (arith, h.variant.0)) h.lookup in
    record {
      counted = c.earlier_in.ensures.steps.counted;
      bounded = omega (arith, c.earlier_in.ensures.steps.bounded, ap length it.here, longest-at c.args.place c.args.self.now.pieces);
    }
