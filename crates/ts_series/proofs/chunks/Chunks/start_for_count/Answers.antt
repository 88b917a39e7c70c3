use Rattle.std.proofs.Common.{◌≡◌, ◌-◌, ◌+◌, ◌<◌, [], length, take, get_or, ◌∙◌, sym, ap, subst, arith}
use Rattle.std.specs.Prelude.{max}
use Rattle.ts_spec.specs.Sample.{Point, IsAscending, first_of}
use Rattle.ts_sample.specs.Chunk.{joined}
use Rattle.ts_series.specs.Stored.{Stored, points}
use Rattle.ts_series.proofs.PieceCounts.{counted-item, counted-part}
use Rattle.ts_series.proofs.Answering.{pieces-length, piece}
use Rattle.ts_series.proofs.TimeFrom.{counted-upto, first-upto, later-start}
use Rattle.ts_series.proofs.ShareEnds.{start-seam}
use Rattle.ts_series.proofs.chunks.Chunks.start_for_count.Goals as goal
use Rattle.ts_series.proofs.chunks.Chunks.start_for_count.Goals.{After-index-chunk, After-first}

-- the samples of the chunks before the next one, with its own
more : (g : _) (c : After-index-chunk g) → length (joined (take c.loop-place.place c.args.self.now.pieces)) ≡ length (joined (take (c.loop-place.place - 1) c.args.self.now.pieces)) + length (g.C.Chunk.list c.index-chunk.result.now)
more g c =
    let i = c.loop-place.place in
    let size = pieces-length g.C.Chunk.list c.self.inside.chunks.items _ _ c.args.self.now c.self.view_is in
    counted-item g.C.Chunk.list (i - 1) i c.self.inside.chunks.items c.args.self.now.pieces c.index-chunk.result.now (ap (λ (k : Stored). k.pieces) c.self.view_is)
    (omega (arith, size, c.loop-place.auto.place, c.ended_by-end.ensures.within)) c.index-chunk.ensures (omega arith)

pub overflow_add-found : goal.overflow_add-found
overflow_add-found g c =
    let pss = c.args.self.now.pieces in
    omega (arith, more g (goal.at.overflow_add-found g c).After-index-chunk, counted-part c.ended_by-end.result pss, c.loop-place.invariant, c.len-found.ensures, c.len-all.type_inv, c.len-all.ensures)

pub loop-place-preserved : goal.loop-place-preserved
loop-place-preserved g c = omega (arith, more g (goal.at.loop-place-preserved g c).After-index-chunk, c.loop-place.invariant, c.len-found.ensures)

-- the first sample of the chunk is that of its piece
first-is : (g : _) (c : After-first g) → first_of (get_or c.args.self.now.pieces (c.loop-place.place - 1) []) ≡ c.first.result
first-is g c =
    let size = pieces-length g.C.Chunk.list c.self.inside.chunks.items _ _ c.args.self.now c.self.view_is in
    let it = piece g.C.Chunk.format g.C.Chunk.list g.C.Chunk.most c.self.inside.chunks.items _ c.self.inside.count c.args.self.now c.self.view_is c.self.invariant
    (c.loop-place.place - 1) c.index-chunk.result.now (omega (arith, size, c.loop-place.auto.place, c.ended_by-end.ensures.within)) c.index-chunk.ensures in
    sym (c.first.ensures ∙ ap first_of it.here)

pub returns-in-Some : goal.returns-in-Some
returns-in-Some g c =
    let pss = c.args.self.now.pieces in
    let at = goal.at.returns-in-Some g c in
    let i = c.loop-place.place - 1 in
    let first = first-is g at.After-first ∙ c.in-Some.is in
    let less : i < c.ended_by-end.result = omega (arith, c.loop-place.auto.place) in
    let rises : IsAscending (points c.args.self.now) = subst (λ (k : Stored). IsAscending (points k)) c.self.view_is c.self.invariant.ascending in
    let high = first-upto c.args.to c.in-Some.first i c.ended_by-end.result pss less c.ended_by-end.ensures.earlier first in
    let all = counted-upto c.args.to c.in-Some.first i c.ended_by-end.result pss less rises c.ended_by-end.ensures.earlier first in
    let start : c.max.result ≡ max c.in-Some.first.time c.args.from = omega (arith, c.max.ensures, ap (λ (p : Point). p.time) c.first-in-Some.view_is) in
    record {
      within = (omega (arith, c.max.ensures), omega (arith, high, start, c.requires));
      reach = later-start c.args.from c.args.to c.in-Some.first.time c.args.count c.max.result (joined pss) start
          (omega (arith, c.if-count-found.true, more g at.After-index-chunk, c.loop-place.invariant, c.len-found.ensures, all));
      seam = start-seam c.args.from i c.max.result c.in-Some.first pss rises first start;
    }
