use Rattle.std.proofs.Common.{◌≡◌, suc, ◌+◌, ◌≤◌, ◌∙◌, [], length, get_or, take, sym, ap, subst, arith}
use Rattle.std.specs.Prelude.{min}
use Rattle.ts_spec.specs.Sample.{Point, IsAscending, last_of}
use Rattle.ts_sample.specs.Chunk.{joined}
use Rattle.ts_series.specs.Stored.{Stored, points}
use Rattle.ts_series.proofs.PieceCounts.{counted-item, counted-part}
use Rattle.ts_series.proofs.Answering.{pieces-length, piece}
use Rattle.ts_series.proofs.TimeFor.{counted-from, last-from, earlier-end}
use Rattle.ts_series.proofs.ShareEnds.{end-seam}
use Rattle.ts_series.proofs.chunks.Chunks.end_for_count.Goals as goal
use Rattle.ts_series.proofs.chunks.Chunks.end_for_count.Goals.{After-index-chunk, After-last}

-- the samples of the chunks before the next one, with its own
more : (g : _) (c : After-index-chunk g) → length (joined (take (c.loop-place.place + 1) c.args.self.now.pieces)) ≡ length (joined (take c.loop-place.place c.args.self.now.pieces)) + length (g.C.Chunk.list c.index-chunk.result.now)
more g c =
    let i = c.loop-place.place in
    let size = pieces-length g.C.Chunk.list c.self.inside.chunks.items _ _ c.args.self.now c.self.view_is in
    counted-item g.C.Chunk.list i (i + 1) c.self.inside.chunks.items c.args.self.now.pieces c.index-chunk.result.now (ap (λ (k : Stored). k.pieces) c.self.view_is)
    (omega (arith, size, c.loop-place-test.true, c.len-place-end.ensures)) c.index-chunk.ensures (omega arith)

pub overflow_add-found : goal.overflow_add-found
overflow_add-found g c =
    let next = more g (goal.at.overflow_add-found g c).After-index-chunk in
    omega (arith, next, counted-part (c.loop-place.place + 1) c.args.self.now.pieces, c.loop-place.invariant, c.len-found.ensures, c.len-all.type_inv, c.len-all.ensures)

pub loop-place-preserved : goal.loop-place-preserved
loop-place-preserved g c = omega (arith, more g (goal.at.loop-place-preserved g c).After-index-chunk, c.loop-place.invariant, c.len-found.ensures)

-- the last sample of the chunk is that of its piece
last-is : (g : _) (c : After-last g) → last_of (get_or c.args.self.now.pieces c.loop-place.place []) ≡ c.last.result
last-is g c =
    let it = piece g.C.Chunk.format g.C.Chunk.list g.C.Chunk.most c.self.inside.chunks.items _ c.self.inside.count c.args.self.now c.self.view_is c.self.invariant
    c.loop-place.place c.index-chunk.result.now (omega (arith, c.loop-place-test.true, c.len-place-end.ensures)) c.index-chunk.ensures in
    sym (c.last.ensures ∙ ap last_of it.here)

pub returns-in-Some : goal.returns-in-Some
returns-in-Some g c =
    let pss = c.args.self.now.pieces in
    let at = goal.at.returns-in-Some g c in
    let i = c.loop-place.place in
    let later = c.begun_before-start.ensures.later in
    let start : c.begun_before-start.result ≤ i = omega (arith, c.loop-place.auto.place) in
    let rises : IsAscending (points c.args.self.now) = subst (λ (k : Stored). IsAscending (points k)) c.self.view_is c.self.invariant.ascending in
    let last = last-is g at.After-last ∙ c.in-Some.is in
    let low = last-from c.args.from c.in-Some.last c.begun_before-start.result i pss start later last in
    let all = counted-from c.args.from c.in-Some.last c.begun_before-start.result i pss start rises later last in
    let end : c.min.result ≡ min c.in-Some.last.time c.args.to = omega (arith, c.min.ensures, ap (λ (p : Point). p.time) c.last-in-Some.view_is) in
    let next = ap (λ n. length (joined (take n pss))) (let next : i + 1 ≡ suc i = omega arith in next) in
    record {
      within = (omega (arith, low, end, c.requires), omega (arith, end));
      reach = earlier-end c.args.from c.args.to c.in-Some.last.time c.args.count c.min.result (joined pss) (omega (arith, end)) (omega (arith, end))
          (omega (arith, c.if-count-found.true, more g at.After-index-chunk, c.loop-place.invariant, c.len-found.ensures, all, next));
      seam = end-seam c.args.to i c.min.result c.in-Some.last pss rises last end;
    }
