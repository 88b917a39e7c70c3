use Rattle.std.proofs.Common.{nat_lt, sym, ◌∙◌, ap, arith}
use Rattle.ts_spec.specs.Sample.{Point, at_times, last_of}
use Rattle.ts_series.specs.Stored.{points}
use Rattle.ts_series.specs.History.{history_of, list_of, low}
use Rattle.ts_series.proofs.EdgeQuestions.{shown, last-none, last-below, last-within}
use Rattle.ts_series.proofs.chunked_series.ChunkedSeries.before.Goals as goal

pub returns-in_err-last-clause-before : goal.returns-in_err-last-clause-before
returns-in_err-last-clause-before g c =
    let h = history_of c.self.inside.options c.self.inside.high c.self.inside.born c.self.inside.chunks in
    c.from_residual.ensures ∙ last-none (low h) (points h.held) c.args.t (sym c.in_err-last.was ∙ c.last_before.ensures.before) ∙ ap (λ k. last_of (at_times (λ u. nat_lt u c.args.t) (list_of k))) c.self.view_is

pub returns-then-last-edge-clause-before : goal.returns-then-last-edge-clause-before
returns-then-last-edge-clause-before g c =
    let time_is = ap (λ (p : Point). p.time) c.last.view_is in
    last-below c.edge.result (points c.self.inside.chunks) c.args.t c.in_ok-last.last c.self.invariant.chunks.ascending (sym c.last_before.ensures.before ∙ c.in_ok-last.was) (omega (arith, c.if-last-edge.true, time_is))
    ∙ ap (λ ps. last_of (at_times (λ u. nat_lt u c.args.t) ps)) (shown c.self.view_is c.edge.ensures)

pub returns-else-last-edge-clause-before : goal.returns-else-last-edge-clause-before
returns-else-last-edge-clause-before g c =
    let time_is = ap (λ (p : Point). p.time) c.last.view_is in
    last-within c.edge.result (points c.self.inside.chunks) c.args.t c.in_ok-last.last c.self.invariant.chunks.ascending (sym c.last_before.ensures.before ∙ c.in_ok-last.was) (omega (arith, c.if-last-edge.false, time_is))
    ∙ ap (λ ps. last_of (at_times (λ u. nat_lt u c.args.t) ps)) (shown c.self.view_is c.edge.ensures)
