use Rattle.std.proofs.Common.{◌≡◌, ◌+◌, ◌≤◌, length, take, sym, ◌∙◌, ap, subst, arith}
use Rattle.std.specs.Prelude.{nat_lt}
use Rattle.ts_spec.specs.Sample.{IsAscending}
use Rattle.ts_sample.specs.Chunk.{joined}
use Rattle.ts_series.specs.Stored.{Stored, points}
use Rattle.ts_series.proofs.Counting.{times-length}
use Rattle.ts_series.proofs.Answering.{pieces-length, piece, length-before, all-before}
use Rattle.ts_series.proofs.chunks.Chunks.count_before.Goals as goal
use Rattle.ts_series.proofs.PieceCounts.{length-more, counted-part}
use Rattle.ts_series.proofs.chunks.Chunks.count_before.Goals.{After-index, After-len}

-- the samples of the chunks up to the next one
more : (g : _) (c : After-index g) → length (joined (take (c.loop-earlier.earlier + 1) c.args.self.now.pieces)) ≡ length (joined (take c.loop-earlier.earlier c.args.self.now.pieces)) + length (g.C.Chunk.list c.index.result.now)
more g c =
    let i = c.loop-earlier.earlier in
    let size = pieces-length g.C.Chunk.list c.self.inside.chunks.items _ _ c.args.self.now c.self.view_is in
    let it = piece g.C.Chunk.format g.C.Chunk.list g.C.Chunk.most c.self.inside.chunks.items _ c.self.inside.count c.args.self.now c.self.view_is c.self.invariant
    i c.index.result.now (omega (arith, size, c.loop-earlier-test.true, c.before-place.ensures.within)) c.index.ensures in
    omega (arith, ap length it.here, length-more i (i + 1) c.args.self.now.pieces (omega arith))

pub overflow_add-count : goal.overflow_add-count
overflow_add-count g c =
    let next = more g (goal.at.overflow_add-count g c).After-index in
    omega (arith, c.len-all.type_inv, c.len-all.ensures, c.loop-earlier.invariant, c.len-count.ensures, next, counted-part (c.loop-earlier.earlier + 1) c.args.self.now.pieces)

pub loop-earlier-preserved : goal.loop-earlier-preserved
loop-earlier-preserved g c =
    let sum : c.loop-earlier.count + c.len-count.result ≡ length (joined (take (c.loop-earlier.earlier + 1) c.args.self.now.pieces)) =
    omega (arith, c.loop-earlier.invariant, c.len-count.ensures, more g (goal.at.loop-earlier-preserved g c).After-index) in
    sum

rises : (g : _) (c : After-len g) → IsAscending (points c.args.self.now)
rises g c = subst (λ (k : Stored). IsAscending (points k)) c.self.view_is c.self.invariant.ascending

pub overflow_add-result : goal.overflow_add-result
overflow_add-result g c =
    let pss = c.args.self.now.pieces in
    let b = c.before-place.ensures in
    let at_end : c.loop-earlier.earlier ≡ c.before-place.result = omega arith in
    omega (
      arith,
      c.len-all.type_inv,
      c.len-all.ensures,
      c.loop-earlier.invariant,
      ap (λ i. length (joined (take i pss))) at_end,
      c.earlier_at.ensures.count,
      length-before c.args.time c.before-place.result pss (rises g (goal.at.overflow_add-result g c).After-len) b.earlier b.reached,
      times-length (λ u. nat_lt u c.args.time) (joined pss),
    )

pub returns-clause-count : goal.returns-clause-count
returns-clause-count g c =
    let pss = c.args.self.now.pieces in
    let b = c.before-place.ensures in
    let at_end : c.loop-earlier.earlier ≡ c.before-place.result = omega arith in
    let all = length-before c.args.time c.before-place.result pss (rises g (goal.at.returns-clause-count g c).After-len) b.earlier b.reached in
    omega (arith, c.loop-earlier.invariant, ap (λ i. length (joined (take i pss))) at_end, c.earlier_at.ensures.count, all)

pub returns-then-place-len-clause-count : goal.returns-then-place-len-clause-count
returns-then-place-len-clause-count g c =
    let pss = c.args.self.now.pieces in
    let b = c.before-place.ensures in
    let ok = c.self.inside.chunks.ok in
    let past : length pss ≤ c.before-place.result = omega (arith, pieces-length g.C.Chunk.list c.self.inside.chunks.items _ _ c.args.self.now c.self.view_is, c.if-place-len.true, c.len.ensures) in
    c.len-all.ensures ∙ sym (ap length (all-before c.args.time c.before-place.result pss (rises g (goal.at.returns-then-place-len-clause-count g c).After-len) b.earlier b.reached past))
