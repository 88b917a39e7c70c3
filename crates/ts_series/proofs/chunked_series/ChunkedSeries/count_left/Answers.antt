use Rattle.std.proofs.Common.{◌≡◌, ◌<◌, ◌+◌, ◌≤◌, length, ap, arith}
use Rattle.std.specs.Prelude.{nat_lt, nat_le, ◌&&◌}
use Rattle.ts_spec.specs.Sample.{at_times, between, outside}
use Rattle.ts_series.specs.Stored.{points}
use Rattle.ts_series.specs.History.{History}
use Rattle.ts_series.proofs.Counting.{times-length}
use Rattle.ts_series.proofs.MendedCount.{count-past, count-left}
use Rattle.ts_series.proofs.chunked_series.ChunkedSeries.count_left.Goals as goal
use Rattle.ts_series.proofs.chunked_series.ChunkedSeries.count_left.Goals.{After-count_before-2}

pub overflow_sub-result : goal.overflow_sub-result
overflow_sub-result g c = omega (arith, c.count_before.ensures.count, c.len-all.ensures, times-length (λ t. nat_lt t c.args.edge) (points c.self.inside.chunks))

pub returns-then-to-edge-clause-left : goal.returns-then-to-edge-clause-left
returns-then-to-edge-clause-left g c =
    let past : c.args.to < c.args.edge = omega (arith, c.if-to-edge.true) in
    omega (
      arith,
      c.count_before.ensures.count,
      c.len-all.ensures,
      count-past c.args.edge c.args.from c.args.to past (points c.self.inside.chunks),
      ap (λ (h : History). length (at_times (nat_le c.args.edge) (outside c.args.from c.args.to (points h.held)))) c.self.view_is,
    )

pub overflow_sub-result-2 : goal.overflow_sub-result-2
overflow_sub-result-2 g c =
    omega (
      arith,
      c.requires,
      c.len-all.ensures,
      times-length (λ t. nat_le c.args.from t && nat_le t c.args.to) (points c.self.inside.chunks),
      ap (λ (h : History). length (between c.args.from c.args.to (points h.held))) c.self.view_is,
    )

-- the samples that are left, those of the interval and those before both are all
parts : (g : _) (c : After-count_before-2 g)
    → length (at_times (nat_le c.args.edge) (outside c.args.from c.args.to (points c.args.self.now.held))) + c.args.removed + c.count_before-2.result ≡ c.len-all.result
parts g c =
    let reached : c.args.edge ≤ c.args.to = omega (arith, c.if-to-edge.false) in
    omega (
      arith,
      c.requires,
      c.count_before-2.ensures.count,
      c.len-all.ensures,
      count-left c.args.edge c.args.from c.args.to c.min.result reached c.min.ensures (points c.self.inside.chunks),
      ap (λ (h : History). length (between c.args.from c.args.to (points h.held))) c.self.view_is,
      ap (λ (h : History). length (at_times (nat_le c.args.edge) (outside c.args.from c.args.to (points h.held)))) c.self.view_is,
    )

pub overflow_sub-result-3 : goal.overflow_sub-result-3
overflow_sub-result-3 g c = omega (arith, parts g (goal.at.overflow_sub-result-3 g c).After-count_before-2)

pub returns-clause-left : goal.returns-clause-left
returns-clause-left g c = omega (arith, parts g (goal.at.returns-clause-left g c).After-count_before-2)
