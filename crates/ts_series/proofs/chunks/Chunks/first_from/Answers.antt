use Rattle.std.proofs.Common.{◌≡◌, ◌≤◌, List, length, get_or, refl, sym, ◌∙◌, ap, subst, arith}
use Rattle.std.specs.Prelude.{nat_le}
use Rattle.ts_spec.specs.Sample.{Point, IsAscending, at_times, between, first_of}
use Rattle.ts_series.specs.declared.chunk_queries.ScanEnds.{ScanEnds}
use Rattle.ts_series.specs.Stored.{Stored, points}
use Rattle.ts_series.proofs.Joined.{longest-at}
use Rattle.ts_series.proofs.Answering.{IsPiece, pieces-length, piece, first-late, none-late, not-less}
use Rattle.ts_series.proofs.OneChunk.{few, room-for, ends-first, all-late, late-is, empty-first}
use Rattle.ts_series.proofs.chunks.Chunks.first_from.Goals as goal
use Rattle.ts_series.proofs.chunks.Chunks.first_from.Goals.{After-first}

one : (g : _) (c : After-first g) → IsPiece g.C.Chunk.format c.args.self.now c.before-2.result (g.C.Chunk.list c.in_ok-chunk.chunk.now)
one g c =
    let ok = c.self.inside.chunks.ok in
    piece g.C.Chunk.format g.C.Chunk.list g.C.Chunk.most c.self.inside.chunks.items _ c.self.inside.count c.args.self.now c.self.view_is c.self.invariant
    c.before-2.result c.in_ok-chunk.chunk.now (omega (arith, c.in_ok-chunk.ensures.variant.0 refl)) c.in_ok-chunk.ensures.lookup

-- the first sample is the first one of the chunk at the place
there : (g : _) (c : After-first g) → first_of (at_times (nat_le c.args.time) (points c.args.self.now)) ≡ first_of (at_times (nat_le c.args.time) (g.C.Chunk.list c.in_ok-chunk.chunk.now))
there g c =
    let rises : IsAscending (points c.args.self.now) = subst (λ (k : Stored). IsAscending (points k)) c.self.view_is c.self.invariant.ascending in
    let b = c.before-2.ensures in
    let it = one g c in
    first-late c.args.time c.before-2.result c.args.self.now.pieces rises b.earlier b.reached it.within ∙ ap (λ (ps : List Point). first_of (at_times (nat_le c.args.time) ps)) (sym it.here)

pub returns-in_err-chunk-clause-first : goal.returns-in_err-chunk-clause-first
returns-in_err-chunk-clause-first g c =
    let pss = c.args.self.now.pieces in
    let place = c.before-2.result in
    let rises : IsAscending (points c.args.self.now) = subst (λ (k : Stored). IsAscending (points k)) c.self.view_is c.self.invariant.ascending in
    let b = c.before-2.ensures in
    let ok = c.self.inside.chunks.ok in
    let past : length pss ≤ place = omega (arith, not-less place c.self.inside.chunks.len c.in_err-chunk.ensures.variant.1, pieces-length g.C.Chunk.list c.self.inside.chunks.items _ _ c.args.self.now c.self.view_is) in
    c.from_residual.ensures ∙ sym (none-late c.args.time place pss rises b.earlier b.reached past)

pub returns-in_err-first-clause-first : goal.returns-in_err-first-clause-first
returns-in_err-first-clause-first g c =
    let none = empty-first (g.C.Chunk.list c.in_ok-chunk.chunk.now) (sym c.first.ensures ∙ c.in_err-first.was) in
    c.from_residual-in_err-first.ensures
    ∙ sym (there g (goal.at.returns-in_err-first-clause-first g c).After-first ∙ ap (λ (ps : List Point). first_of (at_times (nat_le c.args.time) ps)) none)

pub returns-then-time-first-clause-first : goal.returns-then-time-first-clause-first
returns-then-time-first-clause-first g c =
    let at = (goal.at.returns-then-time-first-clause-first g c).After-first in
    let it = one g at in
    let low : c.args.time ≤ c.in_ok-first.first.time = omega (arith, c.if-time-first.true, ap (λ (p : Point). p.time) c.first-2.view_is) in
    let first = sym c.first.ensures ∙ c.in_ok-first.was in
    sym (there g at ∙ ap first_of (all-late c.args.time (g.C.Chunk.list c.in_ok-chunk.chunk.now) c.in_ok-first.first it.chunk.ascending first low) ∙ first)

pub scan-requires : goal.scan-requires
scan-requires g c =
    let it = one g (goal.at.scan-requires g c).After-first in
    let limit = get_or c.args.self.now.limits c.before-2.result 0 in
    let ps = g.C.Chunk.list c.in_ok-chunk.chunk.now in
    record { room = room-for c.args.time 18446744073709551615 c.new-ends.result.count ps (few g.C.Chunk.format limit ps it.chunk g.met.C.Chunk.at_least) c.new-ends.ensures.count }

pub returns : goal.returns
returns g c =
    let at = (goal.at.returns g c).After-first in
    let it = one g at in
    let ps = g.C.Chunk.list c.in_ok-chunk.chunk.now in
    record {
      first = ap (λ (e : ScanEnds). e.first) c.scan.ensures.visited ∙ ends-first c.new-ends.result (between c.args.time 18446744073709551615 ps) c.new-ends.ensures.first
          ∙ ap first_of (late-is c.args.time ps it.chunk.fine) ∙ sym (there g at);
      steps = record {
        counted = omega (arith, c.scan.ensures.counted);
        bounded = omega (arith, c.scan.ensures.bounded, ap length it.here, longest-at c.before-2.result c.args.self.now.pieces);
      };
    }
