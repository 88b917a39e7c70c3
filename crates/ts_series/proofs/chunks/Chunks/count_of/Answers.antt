use Rattle.std.proofs.Common.{◌≡◌, ◌+◌, ◌∙◌, length, take, ap, arith}
use Rattle.ts_sample.specs.Chunk.{joined}
use Rattle.ts_series.specs.Stored.{Stored, points}
use Rattle.ts_series.proofs.PieceCounts.{counted-item, counted-part, counted-range}
use Rattle.ts_series.proofs.chunks.Chunks.count_of.Goals as goal
use Rattle.ts_series.proofs.chunks.Chunks.count_of.Goals.{After-index}

more : (g : _) (c : After-index g) → length (joined (take (c.loop-place.place + 1) c.args.self.now.pieces)) ≡ length (joined (take c.loop-place.place c.args.self.now.pieces)) + length (g.C.Chunk.list c.index.result.now)
more g c =
    let i = c.loop-place.place in
    counted-item g.C.Chunk.list i (i + 1) c.self.inside.chunks.items c.args.self.now.pieces c.index.result.now (ap (λ (k : Stored). k.pieces) c.self.view_is) (omega arith) c.index.ensures (omega arith)

pub overflow_add-count : goal.overflow_add-count
overflow_add-count g c =
    let all = c.self.invariant.counted ∙ ap (λ (k : Stored). length (points k)) c.self.view_is in
    omega (arith, more g (goal.at.overflow_add-count g c).After-index, counted-part (c.loop-place.place + 1) c.args.self.now.pieces, c.loop-place.invariant, c.len-count.ensures, all, c.len-all.type_inv, c.len-all.ensures)

pub loop-place-preserved : goal.loop-place-preserved
loop-place-preserved g c = omega (arith, more g (goal.at.loop-place-preserved g c).After-index, c.loop-place.invariant, c.len-count.ensures)

pub returns : goal.returns
returns g c =
    let end = c.args.end in
    let last : c.loop-place.place ≡ end = omega (arith, c.loop-place.auto.place, c.loop-place.auto.place-end) in
    omega (arith, c.loop-place.invariant, ap (λ n. length (joined (take n c.args.self.now.pieces))) last, counted-range c.args.start end c.args.self.now.pieces c.requires.ordered)
