use Rattle.std.proofs.Common.{◌≡◌, nat_lt, length, le-ltb, refl, sym, ◌∙◌, ap, subst, arith}
use Rattle.ts_spec.specs.State.{edge_of}
use Rattle.ts_spec.specs.StoredUpdates.{high_after_rows}
use Rattle.ts_series.specs.Stored.{points}
use Rattle.ts_series.specs.History.{History, IsKeptIn}
use Rattle.ts_series.specs.Mend.{list_after_update}
use Rattle.ts_series.proofs.MendedCount.{updated_list-most, updated_list-exceeds}
use Rattle.ts_series.proofs.Reach.{within_reach}
use Rattle.ts_series.proofs.Ready.{Shows}
use Rattle.ts_series.proofs.RowPast.{few-in-chunks}
use Rattle.ts_series.proofs.chunked_series.ChunkedSeries.exceeds.Goals as goal

pub returns-then-saturating_add-limit-clause-exceeds : goal.returns-then-saturating_add-limit-clause-exceeds
returns-then-saturating_add-limit-clause-exceeds g c =
    let h = c.args.self.now in
    let rows = c.args.rows.now in
    let kept : IsKeptIn g.C.Chunk.format h = subst (IsKeptIn g.C.Chunk.format) c.self.view_is c.self.invariant in
    sym (le-ltb c.args.limit (length (list_after_update c.args.from c.args.to rows h))
    (omega (
      arith,
      updated_list-most c.args.from c.args.to rows h (subst Shows c.self.view_is refl) kept.chunks.ascending c.requires.ascending c.requires.within,
      c.if-saturating_add-limit.true,
      c.saturating_add.ensures,
      c.len.ensures,
      c.ranges.limit,
      ap (λ (k : History). length (points k.held)) c.self.view_is,
    )))

pub returns-clause-exceeds : goal.returns-clause-exceeds
returns-clause-exceeds g c =
    let h = c.args.self.now in
    let rows = c.args.rows.now in
    let kept : IsKeptIn g.C.Chunk.format h = subst (IsKeptIn g.C.Chunk.format) c.self.view_is c.self.invariant in
    let edge : c.edge_at-edge.result ≡ edge_of h.options.retention (high_after_rows rows h.high) =
    c.edge_at-edge.ensures ∙ ap (edge_of c.self.inside.options.retention) c.high_after.ensures
    ∙ ap (λ (k : History). edge_of k.options.retention (high_after_rows rows k.high)) c.self.view_is in
    ap (nat_lt c.args.limit) c.saturating_add-2.ensures
    ∙ updated_list-exceeds c.args.from c.args.to rows h (subst Shows c.self.view_is refl) kept.chunks.ascending c.requires.ascending c.requires.within
    c.args.limit c.edge_at-edge.result c.count_left-left.result c.lower_bound.result edge c.lower_bound.ensures.after c.count_left-left.ensures.left (omega (arith, c.ranges.limit))

pub returns-clause-easy : goal.returns-clause-easy
returns-clause-easy g c = λ row. (
    let h = c.args.self.now in
    let kept : IsKeptIn g.C.Chunk.format h = subst (IsKeptIn g.C.Chunk.format) c.self.view_is c.self.invariant in
    let few = few-in-chunks {format = g.C.Chunk.format} h (subst Shows c.self.view_is refl) kept c.args.limit (within_reach g.met.C.Chunk.at_least kept refl) row.few in
    absurd (omega (
      arith,
      c.if-saturating_add-limit.false,
      c.saturating_add.ensures,
      c.len.ensures,
      c.ranges.limit,
      few,
      row.one,
      ap (λ (k : History). length (points k.held)) c.self.view_is,
    )))
