use Rattle.std.proofs.Common.{◌≡◌, ◌-◌, ◌∙◌, length, sym, ap, subst, arith}
use Rattle.std.specs.Prelude.{List, IfOk, nat_le, slice_range}
use Rattle.ts_spec.specs.Sample.{Point, IsAfter, IsAscending, at_times, between, outside, put_all}
use Rattle.ts_sample.specs.Chunk.{joined}
use Rattle.ts_series.specs.Stored.{points, pieces_after}
use Rattle.ts_series.proofs.PlannedPieces.{kept-view}
use Rattle.ts_series.proofs.TakenOut.{kept-less, count-removed}
use Rattle.ts_series.proofs.MendedPieces.{left-past, left-rises, rows-placed, placed-rises}
use Rattle.ts_series.proofs.chunks.Chunks.replaced_between.Goals as goal
use Rattle.ts_series.proofs.chunks.Chunks.replaced_between.Goals.{After-deref, After-len}

pub insert_rows-requires-clause-ascending : goal.insert_rows-requires-clause-ascending
insert_rows-requires-clause-ascending g c =
    let now = c.args.self.now in
    let m = c.overlapping_or_next-start in
    let kept = kept-view g.C.Chunk.format _ now c.self.inside.count c.self.view_is c.self.invariant in
    subst IsAscending (sym c.in-Ok.ensures.list) (left-rises c.args.from c.args.to m.result.start m.result.end now.pieces m.ensures kept.ascending)

pub insert_rows-requires-clause-none_within : goal.insert_rows-requires-clause-none_within
insert_rows-requires-clause-none_within g c =
    let m = c.overlapping_or_next-start.result in
    subst (λ (l : List Point). IsAfter c.args.to (at_times (nat_le c.args.from) l)) (sym c.in-Ok.ensures.list)
    (left-past c.args.from c.args.to (joined (slice_range c.args.self.now.pieces m.start m.end)))

-- the samples with the rows
with-rows : (g : _) (c : After-deref g) → c.deref.result.now ≡ put_all c.args.rows.now (outside c.args.from c.args.to (joined (slice_range c.args.self.now.pieces c.overlapping_or_next-start.result.start c.overlapping_or_next-start.result.end)))
with-rows g c = c.deref.ensures.value ∙ c.in-Ok-insert_rows.ensures ∙ ap (put_all c.args.rows.now) c.in-Ok.ensures.list

pub rebuilt-requires-clause-ascending : goal.rebuilt-requires-clause-ascending
rebuilt-requires-clause-ascending g c =
    let now = c.args.self.now in
    let m = c.overlapping_or_next-start in
    let kept = kept-view g.C.Chunk.format _ now c.self.inside.count c.self.view_is c.self.invariant in
    placed-rises c.args.from c.args.to m.result.start m.result.end now.pieces m.ensures c.args.rows.now c.deref.result.now c.requires.within
    (with-rows g (goal.at.rebuilt-requires-clause-ascending g c).After-deref) kept.ascending

pub overflow_sub-removed : goal.overflow_sub-removed
overflow_sub-removed g c =
    let m = c.overlapping_or_next-start.result in
    omega (
      arith,
      c.count_of.ensures,
      c.len.ensures,
      c.in-Ok.samples.ok.0,
      ap length c.in-Ok.ensures.list,
      kept-less c.args.from c.args.to (joined (slice_range c.args.self.now.pieces m.start m.end)),
    )

removed-is : (g : _) (c : After-len g) → c.count_of.result - c.len.result ≡ length (between c.args.from c.args.to (points c.args.self.now))
removed-is g c =
    let m = c.overlapping_or_next-start in
    omega (
      arith,
      c.count_of.ensures,
      count-removed c.args.from c.args.to m.result.start m.result.end c.args.self.now.pieces m.ensures c.len.result (omega (arith, c.len.ensures, c.in-Ok.samples.ok.0, ap length c.in-Ok.ensures.list)),
    )

pub returns-in-Ok-insert_rows-clause-removed : goal.returns-in-Ok-insert_rows-clause-removed
returns-in-Ok-insert_rows-clause-removed g c = removed-is g (goal.at.returns-in-Ok-insert_rows-clause-removed g c).After-len

pub returns-clause-removed : goal.returns-clause-removed
returns-clause-removed g c = removed-is g (goal.at.returns-clause-removed g c).After-len

pub returns-in-Ok-insert_rows-clause-list : goal.returns-in-Ok-insert_rows-clause-list
returns-in-Ok-insert_rows-clause-list g c =
    let now = c.args.self.now in
    let m = c.overlapping_or_next-start in
    subst (λ (l : List Point). IfOk c.rebuilt.result (λ d. joined (pieces_after d now.pieces) ≡ l))
    (rows-placed c.args.from c.args.to m.result.start m.result.end now.pieces m.ensures c.args.rows.now c.deref.result.now c.requires.within
    (with-rows g (goal.at.returns-in-Ok-insert_rows-clause-list g c).After-deref))
    c.rebuilt.ensures.list
