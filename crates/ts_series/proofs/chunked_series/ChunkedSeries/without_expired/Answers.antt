use Rattle.std.proofs.Common.{◌≡◌, ◌-◌, ◌<◌, ◌≤◌, ◌∙◌, sym, ap, subst, arith}
use Rattle.std.specs.Prelude.{nat_le}
use Rattle.ts_spec.specs.Sample.{at_times, outside}
use Rattle.ts_sample.specs.Chunk.{joined}
use Rattle.ts_series.specs.Stored.{points, pieces_after, Change, HasLimits}
use Rattle.ts_series.specs.History.{history_of, History, low, list_of}
use Rattle.ts_series.proofs.TakenFromEdge.{fallen, risen}
use Rattle.ts_series.proofs.chunked_series.ChunkedSeries.without_expired.Goals as goal

pub returns-in_ok-change-clause-limits : goal.returns-in_ok-change-clause-limits
returns-in_ok-change-clause-limits g c one = subst (λ (k : History). HasLimits one k.held.limits c.in_ok-change.change) c.self.view_is (c.in_ok-change.ensures.limits one)

pub returns-in_ok-change-clause-list : goal.returns-in_ok-change-clause-list
returns-in_ok-change-clause-list g c =
    let h = history_of c.self.inside.options c.self.inside.high c.self.inside.born c.self.inside.chunks in
    let ps = points c.self.inside.chunks in
    let old : c.edge-old.result ≡ low h = c.edge-old.ensures ∙ ap low (sym c.self.view_is) in
    let below : c.args.edge < low h = omega (arith, c.if-edge-old.true, old) in
    subst (λ (k : History). at_times (nat_le c.args.edge) (joined (pieces_after c.in_ok-change.change k.held.pieces)) ≡ at_times (nat_le c.args.edge) (list_of k)) c.self.view_is
    (ap (at_times (nat_le c.args.edge)) (c.in_ok-change.ensures.list ∙ ap (λ t. outside 0 (t - 1) ps) old) ∙ fallen (low h) c.args.edge ps below)

pub returns-else-edge-old-clause-list : goal.returns-else-edge-old-clause-list
returns-else-edge-old-clause-list g c =
    let h = history_of c.self.inside.options c.self.inside.high c.self.inside.born c.self.inside.chunks in
    let ps = points c.self.inside.chunks in
    let old : c.edge-old.result ≡ low h = c.edge-old.ensures ∙ ap low (sym c.self.view_is) in
    let above : low h ≤ c.args.edge = omega (arith, c.if-edge-old.false, old) in
    subst (λ (k : History). at_times (nat_le c.args.edge) (joined (pieces_after c.nothing.result k.held.pieces)) ≡ at_times (nat_le c.args.edge) (list_of k)) c.self.view_is
    (ap (λ (x : Change). at_times (nat_le c.args.edge) (joined (pieces_after x h.held.pieces))) c.nothing.ensures ∙ risen (low h) c.args.edge ps above)
