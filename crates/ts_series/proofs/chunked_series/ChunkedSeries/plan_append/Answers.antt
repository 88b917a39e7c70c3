use Rattle.std.proofs.Common.{◌≤◌, length, refl, sym, ap, subst, arith}
use Rattle.std.specs.Prelude.{Some}
use Rattle.ts_spec.specs.Sample.{Point}
use Rattle.ts_series.specs.Stored.{points, LastChunkFits}
use Rattle.ts_series.specs.History.{History, low, IsKeptIn}
use Rattle.ts_series.specs.Plan.{IsForIn, appends}
use Rattle.ts_series.proofs.Ready.{Shows}
use Rattle.ts_series.proofs.Appending.{appends-for, appends-answers}
use Rattle.ts_series.proofs.chunked_series.ChunkedSeries.plan_append.Goals as goal

pub returns-clause-planned : goal.returns-clause-planned
returns-clause-planned g c =
    let h = c.args.self.now in
    let p : Point = record { time = c.args.time; value = c.args.value; made = c.self.inside.born } in
    let kept : IsKeptIn g.C.Chunk.format h = subst (IsKeptIn g.C.Chunk.format) c.self.view_is c.self.invariant in
    let plan = appends-for h p (subst Shows c.self.view_is refl) kept (ap (λ (x : History). x.born) c.self.view_is) (c.is_late.ensures.past c.if-is_late.false)
    (subst (λ (x : History). LastChunkFits g.C.Chunk.format (Some p) x.held.pieces x.held.limits) c.self.view_is (c.last_chunk_fits.ensures.room c.if-not-last_chunk_fits.false)) in
    subst (λ e. IsForIn g.C.Chunk.format (appends e p) h) (ap (λ (x : History). x.options.encoding) (sym c.self.view_is)) plan

pub returns-clause-answer : goal.returns-clause-answer
returns-clause-answer g c how =
    let h = c.args.self.now in
    let p : Point = record { time = c.args.time; value = c.args.value; made = c.self.inside.born } in
    let kept : IsKeptIn g.C.Chunk.format h = subst (IsKeptIn g.C.Chunk.format) c.self.view_is c.self.invariant in
    let late : low h ≤ c.args.time = omega (arith, c.edge.ensures, c.if-time-edge.false) in
    appends-answers h p (subst Shows c.self.view_is refl) kept (ap (λ (x : History). x.born) c.self.view_is) (c.is_late.ensures.past c.if-is_late.false) c.self.inside.options.encoding how c.args.limit late
    (omega (arith, c.if-len-limit.false, c.len.ensures, ap (λ (x : History). length (points x.held)) c.self.view_is))
