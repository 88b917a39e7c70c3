use Rattle.std.proofs.Common.{◌≡◌, ◌-◌, length, ◌∙◌, ap, subst, arith, refl}
use Rattle.std.specs.Prelude.{nat_lt, nat_le}
use Rattle.ts_spec.specs.Sample.{Point, at_times}
use Rattle.ts_spec.specs.State.{edge_of}
use Rattle.ts_spec.specs.Rules.{raised}
use Rattle.ts_series.specs.Stored.{points}
use Rattle.ts_series.specs.History.{History}
use Rattle.ts_series.proofs.Counting.{times-length}
use Rattle.ts_series.proofs.Ready.{Shows}
use Rattle.ts_series.proofs.Putting.{full-early, full-late}
use Rattle.ts_series.proofs.chunked_series.ChunkedSeries.is_full.Goals as goal

pub returns-then-len-limit-clause-full : goal.returns-then-len-limit-clause-full
returns-then-len-limit-clause-full g c =
    full-early c.args.limit c.args.sample c.args.self.now (subst Shows c.self.view_is refl) c.requires.absent
    (omega (arith, c.if-len-limit.true, c.len.ensures, ap (λ (h : History). length (points h.held)) c.self.view_is))

pub returns-clause-full : goal.returns-clause-full
returns-clause-full g c =
    let h = c.args.self.now in
    let count = c.len-2.ensures ∙ ap (λ (x : History). length (points x.held)) c.self.view_is in
    let edge : c.edge_at-edge.result ≡ edge_of h.options.retention (raised c.args.sample.time h.high) =
    c.edge_at-edge.ensures ∙ ap (edge_of c.self.inside.options.retention) c.raise.ensures ∙ ap (λ (p : Point). edge_of c.self.inside.options.retention (raised p.time c.self.inside.high)) c.sample.view_is
    ∙ ap (λ (x : History). edge_of x.options.retention (raised c.args.sample.time x.high)) c.self.view_is in
    ap (λ n. nat_le c.args.limit (n - c.count_before.result)) count
    ∙ full-late c.args.limit c.edge_at-edge.result c.count_before.result c.args.sample h (subst Shows c.self.view_is refl) c.requires.absent c.requires.kept edge
    (c.count_before.ensures.count ∙ ap (λ (x : History). length (at_times (λ t. nat_lt t c.edge_at-edge.result) (points x.held))) c.self.view_is)

pub overflow_sub-result : goal.overflow_sub-result
overflow_sub-result g c =
    omega (arith, c.count_before.ensures.count, c.len-2.ensures, times-length (λ t. nat_lt t c.edge_at-edge.result) (points c.self.inside.chunks))
