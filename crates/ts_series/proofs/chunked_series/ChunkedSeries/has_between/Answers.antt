use Rattle.std.proofs.Common.{◌≡◌, ◌∙◌, sym, ap}
use Rattle.std.specs.Prelude.{nat_lt, nat_le, max, length}
use Rattle.ts_spec.specs.Sample.{Point, between, at_times, first_of}
use Rattle.ts_series.specs.Stored.{points}
use Rattle.ts_series.specs.History.{history_of, History, low, list_of}
use Rattle.ts_series.proofs.FirstUpTo.{has-between, is_upto}
use Rattle.ts_series.proofs.chunked_series.ChunkedSeries.has_between.Goals as goal
use Rattle.ts_series.proofs.chunked_series.ChunkedSeries.has_between.Goals.{After-first_from}

-- whether the first sample from the interval on is in it
has : (g : _) (c : After-first_from g) → is_upto c.args.to c.first_from.result ≡ nat_lt 0 (length (between c.args.from c.args.to (list_of c.args.self.now)))
has g c =
    let h = history_of c.self.inside.options c.self.inside.high c.self.inside.born c.self.inside.chunks in
    let from = c.max.ensures ∙ ap (max c.args.from) (c.edge.ensures ∙ ap low (sym c.self.view_is)) in
    has-between (low h) c.args.from c.args.to (points c.self.inside.chunks) c.first_from.result c.self.invariant.ascending
    (c.first_from.ensures.first ∙ ap (λ t. first_of (at_times (nat_le t) (points c.self.inside.chunks))) from)
    ∙ ap (λ (k : History). nat_lt 0 (length (between c.args.from c.args.to (list_of k)))) c.self.view_is

pub returns-in-None-clause-has : goal.returns-in-None-clause-has
returns-in-None-clause-has g c = ap (is_upto c.args.to) (sym c.in-None.is) ∙ has g (goal.at.returns-in-None-clause-has g c).After-first_from

pub returns-in-Some-clause-has : goal.returns-in-Some-clause-has
returns-in-Some-clause-has g c =
    ap (λ (p : Point). nat_le p.time c.args.to) c.first.view_is ∙ ap (is_upto c.args.to) (sym c.in-Some.is) ∙ has g (goal.at.returns-in-Some-clause-has g c).After-first_from
