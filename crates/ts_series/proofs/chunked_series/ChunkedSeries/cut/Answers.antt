use Rattle.std.proofs.Common.{◌≡◌, ◌*◌, [], ◌∙◌, sym, ap, subst, length, refl, arith}
use Rattle.std.specs.Prelude.{nat_le, max, option_map, None, Some}
use Rattle.std.specs.VecDeque.{deque_capacity}
use Rattle.ts_spec.specs.Sample.{at_times, outside}
use Rattle.ts_sample.specs.Steps.{Takes}
use Rattle.ts_series.specs.Stored.{points}
use Rattle.ts_series.specs.History.{history_of, low, limit_for, reach}
use Rattle.ts_series.specs.Plan.{Plan, IsForIn}
use Rattle.ts_series.proofs.EdgeQuestions.{between-shown}
use Rattle.ts_series.proofs.Reach.{within_reach}
use Rattle.ts_series.proofs.Ready.{is-for}
use Rattle.ts_series.proofs.TakenFromEdge.{cut-shown}
use Rattle.ts_series.proofs.chunked_series.ChunkedSeries.cut.Goals as goal
use Rattle.ts_series.proofs.chunked_series.ChunkedSeries.cut.Goals.{After-without}

pub returns-clause-planned : goal.returns-clause-planned
returns-clause-planned g c =
    let h = history_of c.self.inside.options c.self.inside.high c.self.inside.born c.self.inside.chunks in
    let ps = points c.self.inside.chunks in
    let start : c.max.result ≡ max c.args.from (low h) = c.max.ensures ∙ ap (max c.args.from) (c.edge.ensures ∙ ap low (sym c.self.view_is)) in
    let made : Plan = record {
      cut = Some (record { from = c.args.from; to = c.args.to });
      removed = c.in_ok-change.removed;
      encoding = c.self.inside.options.encoding;
      wrote = [];
      options = None;
      change = c.in_ok-change.change;
      room = option_map (λ q. deque_capacity q) c.in_ok-larger.larger;
    } in
    subst (IsForIn g.C.Chunk.format made) c.self.view_is
    (is-for made h refl refl tt c.in_ok-change.ensures.ready c.in_ok-larger.ensures.enough (c.in_ok-change.ensures.limits (limit_for h.options.chunk_size))
    (ap (at_times (nat_le (low h))) (c.in_ok-change.ensures.list ∙ ap (λ t. outside t c.args.to ps) start) ∙ cut-shown c.args.from c.args.to (low h) ps))

pub returns-clause-cut : goal.returns-clause-cut
returns-clause-cut g c = record {
  cut = refl;
  count = c.in_ok-change.ensures.removed ∙ ap length (between-shown c.self.view_is c.edge.ensures c.args.from c.args.to c.max.ensures);
  wrote = refl;
  options = refl;
}

-- the walk takes its steps
taken : (g : _) (c : After-without g) → Takes c.args.steps.now c.without.new.steps (3 * reach c.args.self.now)
taken g c = record {
  counted = omega (arith, c.without.ensures.steps.counted);
  bounded = omega (arith, c.without.ensures.steps.bounded, within_reach g.met.C.Chunk.at_least c.self.invariant c.self.view_is);
}

pub returns-in_err-change-clause-steps : goal.returns-in_err-change-clause-steps
returns-in_err-change-clause-steps g c = taken g (goal.at.returns-in_err-change-clause-steps g c).After-without

pub returns-in_err-larger-clause-steps : goal.returns-in_err-larger-clause-steps
returns-in_err-larger-clause-steps g c = taken g (goal.at.returns-in_err-larger-clause-steps g c).After-without

pub returns-clause-steps : goal.returns-clause-steps
returns-clause-steps g c = taken g (goal.at.returns-clause-steps g c).After-without

pub invariant_of-result : goal.invariant_of-result
invariant_of-result g c = (c.in_ok-larger.ensures.empty, tt)
