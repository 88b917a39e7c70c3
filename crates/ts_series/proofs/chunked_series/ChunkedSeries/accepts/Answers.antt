use Rattle.std.proofs.Common.{◌≡◌, ◌≤◌, ◌++◌, sym, ◌∙◌, ap, subst}
use Rattle.std.specs.Prelude.{ℕ, Option, Some, nat_le}
use Rattle.ts_spec.specs.Sample.{Point, IsAscending, at_times, last_of}
use Rattle.ts_spec.specs.Valid.{Every, IsUpTo}
use Rattle.ts_spec.proofs.Tidy.{some-same}
use Rattle.ts_series.specs.Stored.{points}
use Rattle.ts_series.specs.History.{History}
use Rattle.ts_series.proofs.Restoring.{no-last, some-last}
use Rattle.ts_series.proofs.chunked_series.ChunkedSeries.accepts.Goals as goal

pub returns-in_default : goal.returns-in_default
returns-in_default g c = (λ no. absurd (cc no), λ follows. absurd (follows.some (no-last (g.C.Chunk.list c.args.chunk.now) c.in_default.ensures)))

pub returns : goal.returns
returns g c =
    let ps = g.C.Chunk.list c.args.chunk.now in
    let last : last_of ps ≡ Some c.in-Some.last = sym c.in-Some.ensures in
    let time : c.last-2.inside.time ≡ c.in-Some.last.time = ap (λ (q : Point). q.time) c.last-2.view_is in
    let view = c.self.view_is in
    let born = ap (λ (h : History). h.born) view in
    let AreMade : (edge born : ℕ) → Type 0 = λ edge born. Every (λ q. q.made ≤ born) (at_times (nat_le edge) ps) in (
      λ made. record {
        some = some-last ps c.in-Some.last last;
        ascending = subst (λ (h : History). IsAscending (points h.held ++ ps)) view (c.are_before.ensures.0 c.if-not-are_before.false);
        high = λ q is. (
            let at_last : IsUpTo c.self.inside.high c.in-Some.last.time = subst (IsUpTo c.self.inside.high) time (c.is_up_to.ensures.0 c.if-not-is_up_to.false) in
            let there : IsUpTo c.args.self.now.high c.in-Some.last.time = subst (λ (h : Option ℕ). IsUpTo h c.in-Some.last.time) (ap (λ (h : History). h.high) view) at_last in
            subst (λ (r : Point). IsUpTo c.args.self.now.high r.time) (some-same c.in-Some.last q (sym last ∙ is)) there);
        made = subst (λ edge. AreMade edge c.args.self.now.born) c.edge.ensures (subst (AreMade c.edge.result) born (c.were_made_by.ensures.0 made));
        trimmed = c.shows_first.ensures.0 c.if-not-shows_first.false;
      },
      λ follows. c.were_made_by.ensures.1 (subst (AreMade c.edge.result) (sym born) (subst (λ edge. AreMade edge c.args.self.now.born) (sym c.edge.ensures) follows.made)),
    )
