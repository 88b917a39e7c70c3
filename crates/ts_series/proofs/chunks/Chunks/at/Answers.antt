use Rattle.std.proofs.Common.{◌≡◌, ◌≤◌, [], length, get_or, refl, sym, ◌∙◌, ap, subst, arith}
use Rattle.ts_spec.specs.Sample.{IsAscending, at, between}
use Rattle.ts_series.specs.declared.chunk_queries.ScanEnds.{ScanEnds}
use Rattle.ts_series.specs.Stored.{Stored, points}
use Rattle.ts_series.proofs.Joined.{longest-at}
use Rattle.ts_series.proofs.Answering.{IsPiece, pieces-length, piece, at-piece, get-past, not-less}
use Rattle.ts_series.proofs.OneChunk.{few, room-for, ends-last, at-last}
use Rattle.ts_series.proofs.chunks.Chunks.at.Goals as goal
use Rattle.ts_series.proofs.chunks.Chunks.at.Goals.{After-before-2, After-new-ends}

-- the sample is in the chunk at the place, if there is one
there : (g : _) (c : After-before-2 g) → at c.args.time (points c.args.self.now) ≡ at c.args.time (get_or c.args.self.now.pieces c.before-2.result [])
there g c =
    let rises : IsAscending (points c.args.self.now) = subst (λ (k : Stored). IsAscending (points k)) c.self.view_is c.self.invariant.ascending in
    at-piece c.args.time c.before-2.result c.args.self.now.pieces rises c.before-2.ensures.earlier c.before-2.ensures.reached

one : (g : _) (c : After-new-ends g) → IsPiece g.C.Chunk.format c.args.self.now c.before-2.result (g.C.Chunk.list c.in_ok-chunk.chunk.now)
one g c =
    let ok = c.self.inside.chunks.ok in
    piece g.C.Chunk.format g.C.Chunk.list g.C.Chunk.most c.self.inside.chunks.items _ c.self.inside.count c.args.self.now c.self.view_is c.self.invariant
    c.before-2.result c.in_ok-chunk.chunk.now (omega (arith, c.in_ok-chunk.ensures.variant.0 refl)) c.in_ok-chunk.ensures.lookup

pub returns-in_err-chunk-clause-at : goal.returns-in_err-chunk-clause-at
returns-in_err-chunk-clause-at g c =
    let pss = c.args.self.now.pieces in
    let place = c.before-2.result in
    let ok = c.self.inside.chunks.ok in
    let past : length pss ≤ place = omega (arith, not-less place c.self.inside.chunks.len c.in_err-chunk.ensures.variant.1, pieces-length g.C.Chunk.list c.self.inside.chunks.items _ _ c.args.self.now c.self.view_is) in
    c.from_residual.ensures ∙ sym (there g (goal.at.returns-in_err-chunk-clause-at g c).After-before-2 ∙ ap (at c.args.time) (get-past place pss past))

pub scan-requires : goal.scan-requires
scan-requires g c =
    let it = one g (goal.at.scan-requires g c).After-new-ends in
    let limit = get_or c.args.self.now.limits c.before-2.result 0 in
    let ps = g.C.Chunk.list c.in_ok-chunk.chunk.now in
    record { room = room-for c.args.time c.args.time c.new-ends.result.count ps (few g.C.Chunk.format limit ps it.chunk g.met.C.Chunk.at_least) c.new-ends.ensures.count }

pub returns : goal.returns
returns g c =
    let goes = goal.at.returns g c in
    let it = one g goes.After-new-ends in
    let ps = g.C.Chunk.list c.in_ok-chunk.chunk.now in
    record {
      at = ap (λ (e : ScanEnds). e.last) c.scan.ensures.visited ∙ ends-last c.new-ends.result (between c.args.time c.args.time ps) c.new-ends.ensures.last
          ∙ at-last c.args.time ps it.chunk.ascending ∙ ap (at c.args.time) it.here ∙ sym (there g goes.After-before-2);
      steps = record {
        counted = omega (arith, c.scan.ensures.counted);
        bounded = omega (arith, c.scan.ensures.bounded, ap length it.here, longest-at c.before-2.result c.args.self.now.pieces);
      };
    }
