use Rattle.std.proofs.Common.{◌+◌, ◌≤◌, [], ◌∷◌, length, refl, ap, subst, arith}
use Rattle.std.specs.Prelude.{option_map, None}
use Rattle.std.specs.VecDeque.{deque_capacity}
use Rattle.ts_series.specs.History.{History, IsKeptIn}
use Rattle.ts_series.specs.Plan.{Plan, chunk_capacity}
use Rattle.ts_series.proofs.Ready.{Shows, is-for, written-list}
use Rattle.ts_series.proofs.chunked_series.ChunkedSeries.with_sample.Goals as goal

pub returns-clause-planned : goal.returns-clause-planned
returns-clause-planned g c =
    let h = c.args.self.now in
    let kept : IsKeptIn g.C.Chunk.format h = subst (IsKeptIn g.C.Chunk.format) c.self.view_is c.self.invariant in
    let change = c.in_ok-change.ensures in
    let enough = subst (λ (x : History). length x.held.pieces + length c.in_ok-change.change.pieces ≤ chunk_capacity (option_map (λ q. deque_capacity q) c.in_ok-larger.larger) x.held) c.self.view_is
    c.in_ok-larger.ensures.enough in
    let plan : Plan = record {
      cut = None;
      removed = 0;
      encoding = c.self.inside.options.encoding;
      wrote = c.args.sample ∷ [];
      options = None;
      change = c.in_ok-change.change;
      room = option_map (λ q. deque_capacity q) c.in_ok-larger.larger;
    } in
    is-for plan h (ap (λ (x : History). x.options.encoding) c.self.view_is) refl (omega (arith, c.requires.made), tt) change.ready enough change.limits
    (written-list plan h refl (subst Shows c.self.view_is refl) kept.chunks.ascending change.list)
