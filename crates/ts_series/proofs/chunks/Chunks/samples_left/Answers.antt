use Rattle.std.proofs.Common.{◌≤◌, ◌<◌, ◌+◌, ◌-◌, ◌++◌, ◌≡◌, ◌∙◌, [], get_or, length, sym, ap, subst, arith}
use Rattle.std.specs.Prelude.{List, IfOk, not}
use Rattle.ts_spec.specs.Sample.{Point, IsAscending, is_within, outside}
use Rattle.ts_series.proofs.Counting.{times-append}
use Rattle.ts_series.proofs.Joined.{ascending-two}
use Rattle.ts_series.proofs.PlannedPieces.{IsOne, kept-view, one-at, piece-short}
use Rattle.ts_series.proofs.TakenOut.{left-one, left-two}
use Rattle.ts_series.proofs.chunks.Chunks.samples_left.Goals as goal
use Rattle.ts_series.proofs.chunks.Chunks.samples_left.Goals.{After-index, After-index-2}

-- the first chunk, and the last
first : (g : _) (c : After-index g) → IsOne g.C.Chunk.format g.C.Chunk.list g.C.Chunk.most c.args.self.now c.args.start c.index.result.now
first g c =
    let within : c.args.end ≤ length c.args.self.now.pieces = c.requires.within in
    one-at g.C.Chunk.list g.C.Chunk.most c.self.inside.chunks.items c.args.self.now c.self.view_is c.self.invariant c.args.start c.index.result.now (omega arith) c.index.ensures

last : (g : _) (c : After-index-2 g) → IsOne g.C.Chunk.format g.C.Chunk.list g.C.Chunk.most c.args.self.now (c.args.end - 1) c.index-2.result.now
last g c =
    let within : c.args.end ≤ length c.args.self.now.pieces = c.requires.within in
    one-at g.C.Chunk.list g.C.Chunk.most c.self.inside.chunks.items c.args.self.now c.self.view_is c.self.invariant (c.args.end - 1) c.index-2.result.now (omega arith) c.index-2.ensures

-- the lists of both
both-are : (g : _) (c : After-index-2 g) → IsOne g.C.Chunk.format g.C.Chunk.list g.C.Chunk.most c.args.self.now c.args.start c.index.result.now
    → g.C.Chunk.list c.index.result.now ++ g.C.Chunk.list c.index-2.result.now ≡ get_or c.args.self.now.pieces c.args.start [] ++ get_or c.args.self.now.pieces (c.args.end - 1) []
both-are g c one = λ i. one.piece i ++ (last g c).piece i

pub remaining_of_both-requires : goal.remaining_of_both-requires
remaining_of_both-requires g c =
    let now = c.args.self.now in
    let at = goal.at.remaining_of_both-requires g c in
    let kept = kept-view g.C.Chunk.format _ now c.self.inside.count c.self.view_is c.self.invariant in
    let within : c.args.end ≤ length now.pieces = c.requires.within in
    let more : c.args.start + 1 < c.args.end = omega (arith, c.requires.ordered, c.if-start-end.false, c.if-start-end-2.false) in
    subst IsAscending (sym (both-are g at.After-index-2 (first g at.After-index))) (ascending-two c.args.start (c.args.end - 1) now.pieces (omega arith) (omega arith) kept.ascending)

pub returns-then-start-end-2 : goal.returns-then-start-end-2
returns-then-start-end-2 g c =
    let one = first g (goal.at.returns-then-start-end-2 g c).After-index in
    record {
      list = subst (λ (l : List Point). IfOk c.left_of.result (λ v. v.items ≡ l))
          (ap (outside c.args.from c.args.to) one.piece ∙ sym (left-one c.args.from c.args.to c.args.start c.args.end c.args.self.now.pieces c.if-start-end-2.true c.requires.within))
          c.left_of.ensures.list;
      unread = c.left_of.ensures.unread;
      steps = record {
        counted = c.left_of.ensures.steps.counted;
        bounded = omega (arith, c.left_of.ensures.steps.bounded, piece-short one);
      };
    }

pub returns : goal.returns
returns g c =
    let now = c.args.self.now in
    let from = c.args.from in
    let to = c.args.to in
    let at = goal.at.returns g c in
    let one = first g at.After-index in
    let more : c.args.start + 1 < c.args.end = omega (arith, c.requires.ordered, c.if-start-end.false, c.if-start-end-2.false) in
    record {
      list = subst (λ (l : List Point). IfOk c.remaining_of_both.result (λ v. v.items ≡ l))
          (ap (outside from to) (both-are g at.After-index-2 one)
          ∙ times-append (λ t. not (is_within from to t)) (get_or now.pieces c.args.start []) (get_or now.pieces (c.args.end - 1) [])
          ∙ sym (left-two from to c.args.start c.args.end now.pieces c.requires more))
          c.remaining_of_both.ensures.list;
      unread = c.remaining_of_both.ensures.unread;
      steps = record {
        counted = c.remaining_of_both.ensures.steps.counted;
        bounded = omega (arith, c.remaining_of_both.ensures.steps.bounded, piece-short one, piece-short (last g at.After-index-2));
      };
    }
