use Rattle.std.proofs.Common.{◌≡◌, ◌∙◌, length, map, sym, ap, subst, arith}
use Rattle.std.specs.Prelude.{not, slice_range}
use Rattle.ts_spec.specs.Sample.{IsAscending, is_within, outside}
use Rattle.ts_spec.proofs.Samples.{ascending-times}
use Rattle.ts_sample.specs.Chunk.{joined}
use Rattle.ts_series.specs.Stored.{points}
use Rattle.ts_series.proofs.PlannedPieces.{kept-view, ready-none}
use Rattle.ts_series.proofs.TakenOut.{kept-less, joined-without, count-removed}
use Rattle.ts_series.proofs.PieceCounts.{joined-same}
use Rattle.ts_series.proofs.chunks.Chunks.without.Goals as goal
use Rattle.ts_series.proofs.chunks.Chunks.without.Goals.{After-deref}

-- how many samples the new chunks have, which is no more than there were
counted : (g : _) (c : After-deref g) → length (joined (map g.C.Chunk.list c.deref.result.now)) ≡ length (outside c.args.from c.args.to (joined (slice_range c.args.self.now.pieces c.overlapping-places.result.start c.overlapping-places.result.end)))
counted g c = ap length (joined-same g.C.Chunk.list c.deref.result.now c.in_ok-chunks.chunks.items c.deref.ensures.value ∙ c.in_ok-chunks.ensures.list)

pub count_in-requires : goal.count_in-requires
count_in-requires g c =
    let less = kept-less c.args.from c.args.to (joined (slice_range c.args.self.now.pieces c.overlapping-places.result.start c.overlapping-places.result.end)) in
    omega (arith, counted g (goal.at.count_in-requires g c).After-deref, less, c.count_of.ensures, c.count_of.type_inv)

pub overflow_sub-removed : goal.overflow_sub-removed
overflow_sub-removed g c =
    let less = kept-less c.args.from c.args.to (joined (slice_range c.args.self.now.pieces c.overlapping-places.result.start c.overlapping-places.result.end)) in
    omega (arith, counted g (goal.at.overflow_sub-removed g c).After-deref, less, c.count_of.ensures, c.count_in.ensures)

pub returns-clause-list : goal.returns-clause-list
returns-clause-list g c =
    let m = c.overlapping-places in
    joined-without c.args.from c.args.to m.result.start m.result.end c.args.self.now.pieces m.ensures.overlapping (map g.C.Chunk.list c.in_ok-chunks.chunks.items) c.in_ok-chunks.ensures.list

pub returns-clause-ready : goal.returns-clause-ready
returns-clause-ready g c =
    let m = c.overlapping-places in
    let now = c.args.self.now in
    let cs = c.in_ok-chunks.chunks.items in
    let kept = kept-view g.C.Chunk.format _ now c.self.inside.count c.self.view_is c.self.invariant in
    ready-none g.C.Chunk.format now m.result.start m.result.end (map g.C.Chunk.list cs) (map g.C.Chunk.most cs) m.ensures.overlapping.ordered m.ensures.overlapping.within
    (subst IsAscending (sym (returns-clause-list g c)) (ascending-times (λ t. not (is_within c.args.from c.args.to t)) (points now) kept.ascending))

pub returns-clause-removed : goal.returns-clause-removed
returns-clause-removed g c =
    let m = c.overlapping-places in
    let come = c.count_in.ensures ∙ counted g (goal.at.returns-clause-removed g c).After-deref in
    omega (arith, count-removed c.args.from c.args.to m.result.start m.result.end c.args.self.now.pieces m.ensures.overlapping c.count_in.result come, c.count_of.ensures)
