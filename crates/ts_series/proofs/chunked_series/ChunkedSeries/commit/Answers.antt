use Rattle.std.proofs.Common.{◌≡◌, sym, ◌∙◌, ap, subst}
use Rattle.std.specs.Prelude.{nat_le, option_map}
use Rattle.std.specs.VecDeque.{deque_capacity}
use Rattle.ts_spec.specs.Sample.{at_times}
use Rattle.ts_spec.specs.State.{edge_of}
use Rattle.ts_spec.specs.StoredUpdates.{high_after_rows}
use Rattle.ts_sample.specs.Chunk.{joined}
use Rattle.ts_series.specs.Stored.{Change, AreAmong, HasLimits, limits_after, points, pieces_after, IsTrimmed}
use Rattle.ts_series.specs.History.{History, history_of, low, limit_for, list_of, IsKeptIn}
use Rattle.ts_series.specs.Plan.{Plan, row_samples, IsForIn, after}
use Rattle.ts_series.proofs.Keeping.{kept-after, after-is}
use Rattle.ts_series.proofs.Limits.{among-after, among-then, keeps-reach}
use Rattle.ts_series.proofs.chunked_series.ChunkedSeries.commit.Goals as goal

pub returns-clause-kept : goal.returns-clause-kept
returns-clause-kept g c =
    let h = history_of c.self.inside.options c.self.inside.high c.self.inside.born c.self.inside.chunks in
    let p : Plan = record {
      cut = c.plan.inside.cut;
      removed = c.plan.inside.removed;
      encoding = c.plan.inside.encoding;
      wrote = row_samples c.plan.inside.wrote;
      options = c.plan.inside.options;
      change = c.plan.inside.change;
      room = option_map (λ q. deque_capacity q) c.plan.inside.larger;
    } in
    let held = c.expire.new.self in
    let ready : IsForIn g.C.Chunk.format p h = subst (λ (q : Plan). IsForIn g.C.Chunk.format q h) (sym c.plan.view_is) (subst (IsForIn g.C.Chunk.format c.args.plan) (sym c.self.view_is) c.requires) in
    let high = c.high_after-high.ensures ∙ ap (λ l. high_after_rows l c.self.inside.high) c.as_slice.ensures in
    let edge : c.edge_at.result ≡ low (after p h) =
    c.edge_at.ensures ∙ ap (λ o. edge_of o.retention c.high_after-high.result) c.unwrap_or-options.ensures ∙ ap (edge_of (after p h).options.retention) high in
    let pieces = c.apply.ensures.pieces ∙ ap (pieces_after p.change) c.grow_capacity.ensures.pieces in
    let list : at_times (nat_le (low (after p h))) (points held) ≡ list_of (after p h) =
    ap (λ t. at_times (nat_le t) (points held)) (sym edge) ∙ c.expire.ensures.kept ∙ ap (λ t. at_times (nat_le t) (points c.apply.new.self)) edge
    ∙ ap (λ l. at_times (nat_le (low (after p h))) (joined l)) pieces ∙ ready.list in
    subst (IsKeptIn g.C.Chunk.format) (sym (after-is p h c.unwrap_or-options.result c.high_after-high.result held c.unwrap_or-options.ensures high list))
    (kept-after p h held c.self.invariant ready.made c.expire.ensures.chunks (subst (λ t. IsTrimmed t held.pieces) edge c.expire.ensures.trimmed))

pub invariant_of-self : goal.invariant_of-self
invariant_of-self g c = returns-clause-kept g c

pub returns-clause-limits : goal.returns-clause-limits
returns-clause-limits g c =
    let old = c.args.self.now in
    let one = limit_for old.options.chunk_size in
    let change : Change = c.plan.inside.change in
    let same = ap (λ (h : History). h.held.limits) c.self.view_is in
    let limits = c.apply.ensures.limits ∙ ap (limits_after change) (c.grow_capacity.ensures.limits ∙ same) in
    let new = subst (HasLimits one old.held.limits) (sym (ap (λ (q : Plan). q.change) c.plan.view_is)) c.requires.limits in
    among-then one old.held.limits (limits_after change old.held.limits) c.expire.new.self.limits (among-after one change old.held.limits new)
    (subst (λ ns. AreAmong one ns c.expire.new.self.limits) limits (c.expire.ensures.limits one))

pub returns-clause-reach : goal.returns-clause-reach
returns-clause-reach g c =
    keeps-reach c.args.self.now (history_of c.unwrap_or-options.result c.high_after-high.result c.self.inside.born c.expire.new.self) (returns-clause-limits g c)
