use Rattle.std.proofs.Common.{◌≡◌, ◌*◌, ◌+◌, ◌≤◌, [], length, ◌∙◌, ap, subst, arith}
use Rattle.std.specs.Prelude.{nat_le, option_map, None, Some}
use Rattle.std.specs.VecDeque.{deque_capacity}
use Rattle.ts_spec.specs.declared.series.Options.{Options}
use Rattle.ts_spec.specs.State.{edge_of}
use Rattle.ts_spec.specs.Sample.{at_times}
use Rattle.ts_sample.specs.Chunk.{joined}
use Rattle.ts_sample.specs.Steps.{Takes}
use Rattle.ts_series.specs.Stored.{longest, pieces_after}
use Rattle.ts_series.specs.History.{History, limit_for, list_of, reach}
use Rattle.ts_series.specs.Plan.{Plan, chunk_capacity}
use Rattle.ts_series.proofs.Reach.{within_reach}
use Rattle.ts_series.proofs.Ready.{is-for}
use Rattle.ts_series.proofs.chunked_series.ChunkedSeries.alter.Goals as goal
use Rattle.ts_series.proofs.chunked_series.ChunkedSeries.alter.Goals.{After-without_expired}

pub returns-clause-planned : goal.returns-clause-planned
returns-clause-planned g c =
    let h = c.args.self.now in
    let change = c.in_ok-change.change in
    let enough = subst (λ (x : History). length x.held.pieces + length change.pieces ≤ chunk_capacity (option_map (λ q. deque_capacity q) c.in_ok-larger.larger) x.held) c.self.view_is
    c.in_ok-larger.ensures.enough in
    let options : Options = record { retention = c.unwrap_or.result; encoding = c.self.inside.options.encoding; chunk_size = c.unwrap_or-2.result; policy = c.unwrap_or-3.result; ignore = c.unwrap_or-4.result } in
    let plan : Plan = record {
      cut = None;
      removed = 0;
      encoding = c.self.inside.options.encoding;
      wrote = [];
      options = Some options;
      change = change;
      room = option_map (λ q. deque_capacity q) c.in_ok-larger.larger;
    } in
    let edge : c.edge_at.result ≡ edge_of options.retention h.high = c.edge_at.ensures ∙ ap (λ (x : History). edge_of options.retention x.high) c.self.view_is in
    is-for plan h (ap (λ (x : History). x.options.encoding) c.self.view_is) (ap (λ (x : History). x.options.encoding) c.self.view_is) tt c.in_ok-change.ensures.ready enough (c.in_ok-change.ensures.limits (limit_for h.options.chunk_size))
    (subst (λ t. at_times (nat_le t) (joined (pieces_after change h.held.pieces)) ≡ at_times (nat_le t) (list_of h)) edge c.in_ok-change.ensures.list)

-- the walk takes its steps
taken : (g : _) (c : After-without_expired g) → Takes c.args.steps.now c.without_expired.new.steps (2 * reach c.args.self.now)
taken g c = record {
  counted = omega (arith, c.without_expired.ensures.steps.counted);
  bounded = omega (arith, c.without_expired.ensures.steps.bounded, within_reach g.met.C.Chunk.at_least c.self.invariant c.self.view_is, ap (λ (h : History). longest h.held.pieces) c.self.view_is);
}

pub returns-in_err-change-clause-steps : goal.returns-in_err-change-clause-steps
returns-in_err-change-clause-steps g c = taken g (goal.at.returns-in_err-change-clause-steps g c).After-without_expired

pub returns-in_err-larger-clause-steps : goal.returns-in_err-larger-clause-steps
returns-in_err-larger-clause-steps g c = taken g (goal.at.returns-in_err-larger-clause-steps g c).After-without_expired

pub returns-clause-steps : goal.returns-clause-steps
returns-clause-steps g c = taken g (goal.at.returns-clause-steps g c).After-without_expired

pub invariant_of-result : goal.invariant_of-result
invariant_of-result g c = (c.in_ok-larger.ensures.empty, tt)
