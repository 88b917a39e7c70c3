use Rattle.std.proofs.Common.{◌≡◌, refl, sym, ◌∙◌, ap, subst}
use Rattle.std.specs.Prelude.{nat_le}
use Rattle.ts_spec.specs.Sample.{Point, at_times}
use Rattle.ts_spec.specs.State.{edge_of}
use Rattle.ts_spec.specs.Rules.{raised}
use Rattle.ts_sample.specs.Chunk.{joined}
use Rattle.ts_series.specs.Stored.{points, AreAmong, IsTrimmed}
use Rattle.ts_series.specs.History.{History, history_of, low, limit_for, list_of, IsKeptIn}
use Rattle.ts_series.specs.Plan.{Plan, IsForIn, appends, after}
use Rattle.ts_series.proofs.Keeping.{kept-after, after-is}
use Rattle.ts_series.proofs.Limits.{same-reach}
use Rattle.ts_series.proofs.chunked_series.ChunkedSeries.commit_append.Goals as goal

pub returns-clause-kept : goal.returns-clause-kept
returns-clause-kept g c =
    let h = history_of c.self.inside.options c.self.inside.high c.self.inside.born c.self.inside.chunks in
    let p : Plan = appends c.args.plan.encoding c.sample-sample.result in
    let held = c.expire.new.self in
    let ready : IsForIn g.C.Chunk.format p h =
    subst (λ (q : Plan). IsForIn g.C.Chunk.format q h) c.sample-sample.ensures (subst (IsForIn g.C.Chunk.format c.args.plan) (sym c.self.view_is) c.requires) in
    let high = c.raise-high.ensures ∙ ap (λ (q : Point). raised q.time c.self.inside.high) c.sample.view_is in
    let edge : c.edge_at.result ≡ low (after p h) = c.edge_at.ensures ∙ ap (edge_of c.self.inside.options.retention) high in
    let list : at_times (nat_le (low (after p h))) (points held) ≡ list_of (after p h) =
    ap (λ t. at_times (nat_le t) (points held)) (sym edge) ∙ c.expire.ensures.kept ∙ ap (λ t. at_times (nat_le t) (points c.append.new.self)) edge
    ∙ ap (λ l. at_times (nat_le (low (after p h))) (joined l)) c.append.ensures.pieces ∙ ready.list in
    subst (IsKeptIn g.C.Chunk.format) (sym (after-is p h c.self.inside.options c.raise-high.result held refl high list))
    (kept-after p h held c.self.invariant ready.made c.expire.ensures.chunks (subst (λ t. IsTrimmed t held.pieces) edge c.expire.ensures.trimmed))

pub invariant_of-self : goal.invariant_of-self
invariant_of-self g c = returns-clause-kept g c

pub returns-clause-limits : goal.returns-clause-limits
returns-clause-limits g c =
    let one = limit_for c.args.self.now.options.chunk_size in
    subst (λ ns. AreAmong one ns c.expire.new.self.limits) (c.append.ensures.limits ∙ ap (λ (h : History). h.held.limits) c.self.view_is) (c.expire.ensures.limits one)

pub returns-clause-reach : goal.returns-clause-reach
returns-clause-reach g c =
    same-reach c.args.self.now (history_of c.self.inside.options c.raise-high.result c.self.inside.born c.expire.new.self) (ap (λ (h : History). h.options) c.self.view_is) (returns-clause-limits g c)
