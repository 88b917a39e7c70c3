use Rattle.std.proofs.Common.{◌≡◌, sym, refl, subst}
use Rattle.ts_spec.specs.Sample.{outside, put_all}
use Rattle.ts_sample.specs.Chunk.{joined}
use Rattle.ts_series.specs.Stored.{points, pieces_after, IsReady, HasLimits}
use Rattle.ts_series.specs.History.{History, history_of, limit_for}
use Rattle.ts_series.proofs.MendedCount.{mends-for}
use Rattle.ts_series.proofs.chunked_series.ChunkedSeries.with_change.Goals as goal

pub returns-clause-planned : goal.returns-clause-planned
returns-clause-planned g c =
    let change = c.args.change in
    let rows = c.args.rows.now in
    let view = sym c.self.view_is in
    mends-for c.args.from c.args.to rows _ change _ (history_of c.self.inside.options c.self.inside.high c.self.inside.born c.self.inside.chunks) c.args.self.now c.self.view_is refl c.self.invariant c.requires.made c.in_ok-wrote.ensures
    (subst (λ (h : History). IsReady g.C.Chunk.format h.held change) view c.requires.ready)
    c.in_ok-larger.ensures.enough
    (subst (λ (h : History). HasLimits (limit_for h.options.chunk_size) h.held.limits change) view c.requires.limits)
    (subst (λ (h : History). joined (pieces_after change h.held.pieces) ≡ put_all rows (outside c.args.from c.args.to (points h.held))) view c.requires.list)
