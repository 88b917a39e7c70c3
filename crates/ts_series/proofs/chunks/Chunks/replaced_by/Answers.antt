use Rattle.std.proofs.Common.{◌≡◌, ◌+◌, ◌≤◌, length, map, sym, ◌∙◌, ap, subst, arith}
use Rattle.std.specs.Prelude.{None, Option}
use Rattle.ts_spec.specs.Sample.{Point, IsAscending, put}
use Rattle.ts_sample.specs.Chunk.{joined}
use Rattle.ts_series.specs.Stored.{Change, points, pieces_after, replaced, with_last}
use Rattle.ts_series.proofs.PlannedPieces.{kept-view}
use Rattle.ts_series.proofs.PieceCounts.{joined-same}
use Rattle.ts_series.proofs.Changed.{few-new, count-changed}
use Rattle.ts_series.proofs.OneRow.{one-taken, none-taken}
use Rattle.ts_series.proofs.chunks.Chunks.replaced_by.Goals as goal
use Rattle.ts_series.proofs.chunks.Chunks.replaced_by.Goals.{After-deref, After-count_in-come}

-- no sample is appended, so the pieces are those with the new ones in their places
put-is : (g : _) (c : After-deref g)
    → joined (replaced c.change.inside.start c.change.inside.end (map g.C.Chunk.list c.change.inside.chunks.items) c.args.self.now.pieces) ≡ put c.args.row.now (points c.args.self.now)
put-is g c =
    let d = c.change.inside in
    let pieces = c.args.self.now.pieces in
    let all = replaced d.start d.end (map g.C.Chunk.list d.chunks.items) pieces in
    let alone : d.appended ≡ None = ap (λ (x : Change). x.appended) c.change.view_is ∙ c.requires.alone in
    sym (ap (λ (o : Option Point). joined (with_last o all)) alone) ∙ ap (λ (x : Change). joined (pieces_after x pieces)) c.change.view_is ∙ c.requires.put

-- how many come and go, by how many there are then
counted : (g : _) (c : After-count_in-come g) → length (put c.args.row.now (points c.args.self.now)) + c.count_of-gone.result ≡ length (points c.args.self.now) + c.count_in-come.result
counted g c =
    let d = c.change.inside in
    let pieces = c.args.self.now.pieces in
    let ordered : d.start ≤ d.end = subst (λ (x : Change). x.start ≤ x.end) (sym c.change.view_is) c.requires.ready.ordered in
    let come = c.count_in-come.ensures ∙ ap length (joined-same g.C.Chunk.list c.deref.result.now d.chunks.items c.deref.ensures.value) in
    omega (
      arith,
      count-changed d.start d.end (map g.C.Chunk.list d.chunks.items) pieces c.count_of-gone.result c.count_in-come.result ordered c.count_of-gone.ensures come,
      ap length (put-is g c.before),
    )

pub count_in-come-requires : goal.count_in-come-requires
count_in-come-requires g c =
    let d = c.change.inside in
    let pieces = c.args.self.now.pieces in
    let up = subst IsAscending (c.requires.put ∙ sym (put-is g (goal.at.count_in-come-requires g c).After-deref)) c.requires.ready.ascending in
    omega (
      arith,
      few-new g.C.Chunk.format d.start d.end (map g.C.Chunk.list d.chunks.items) pieces (map g.C.Chunk.most d.chunks.items) c.change.invariant up,
      ap length (joined-same g.C.Chunk.list c.deref.result.now d.chunks.items c.deref.ensures.value),
    )

pub returns-then-come-gone : goal.returns-then-come-gone
returns-then-come-gone g c =
    let kept = kept-view g.C.Chunk.format _ c.args.self.now c.self.inside.count c.self.view_is c.self.invariant in
    one-taken c.args.row.now (points c.args.self.now) kept.ascending (omega (arith, counted g (goal.at.returns-then-come-gone g c).After-count_in-come, c.if-come-gone.true))

pub returns : goal.returns
returns g c =
    let kept = kept-view g.C.Chunk.format _ c.args.self.now c.self.inside.count c.self.view_is c.self.invariant in
    none-taken c.args.row.now (points c.args.self.now) kept.ascending (λ same. c.if-come-gone.false (omega (arith, counted g (goal.at.returns g c).After-count_in-come, same)))
