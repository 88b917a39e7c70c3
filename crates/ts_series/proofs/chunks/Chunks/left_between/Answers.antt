use Rattle.std.proofs.Common.{◌-◌, ◌≤◌, ◌∙◌, length, map, sym, arith}
use Rattle.ts_series.specs.Stored.{longest}
use Rattle.ts_series.proofs.NewChunks.{longest-cut}
use Rattle.ts_series.proofs.PlannedPieces.{IsOne, one-at, piece-short, without-it, both-new, both-short}
use Rattle.ts_series.proofs.TakenOut.{left-one, left-two}
use Rattle.ts_series.proofs.chunks.Chunks.left_between.Goals as goal
use Rattle.ts_series.proofs.chunks.Chunks.left_between.Goals.{After-without, After-without-2}

-- the first of the chunks, and the last
first : (g : _) (c : After-without g) → IsOne g.C.Chunk.format g.C.Chunk.list g.C.Chunk.most c.args.self.now c.args.start c.index.result.now
first g c =
    let within : c.args.end ≤ length c.args.self.now.pieces = c.requires.within in
    one-at g.C.Chunk.list g.C.Chunk.most c.self.inside.chunks.items c.args.self.now c.self.view_is c.self.invariant c.args.start c.index.result.now (omega arith) c.index.ensures

last : (g : _) (c : After-without-2 g) → IsOne g.C.Chunk.format g.C.Chunk.list g.C.Chunk.most c.args.self.now (c.args.end - 1) c.index-2.result.now
last g c =
    let within : c.args.end ≤ length c.args.self.now.pieces = c.requires.within in
    one-at g.C.Chunk.list g.C.Chunk.most c.self.inside.chunks.items c.args.self.now c.self.view_is c.self.invariant (c.args.end - 1) c.index-2.result.now (omega arith) c.index-2.ensures

pub returns-in_err-chunks-clause-steps : goal.returns-in_err-chunks-clause-steps
returns-in_err-chunks-clause-steps g c =
    record {
      counted = c.without.ensures.steps.counted;
      bounded = omega (arith, c.without.ensures.steps.bounded, piece-short (first g (goal.at.returns-in_err-chunks-clause-steps g c).After-without));
    }

pub returns-in_err-rest-clause-steps : goal.returns-in_err-rest-clause-steps
returns-in_err-rest-clause-steps g c =
    let at = goal.at.returns-in_err-rest-clause-steps g c in
    record {
      counted = omega (arith, c.without.ensures.steps.counted, c.without-2.ensures.steps.counted);
      bounded = omega (arith, c.without.ensures.steps.bounded, c.without-2.ensures.steps.bounded, piece-short (first g at.After-without), piece-short (last g at.After-without-2));
    }

pub returns-in_err-append-clause-steps : goal.returns-in_err-append-clause-steps
returns-in_err-append-clause-steps g c =
    let at = goal.at.returns-in_err-append-clause-steps g c in
    record {
      counted = omega (arith, c.without.ensures.steps.counted, c.without-2.ensures.steps.counted);
      bounded = omega (arith, c.without.ensures.steps.bounded, c.without-2.ensures.steps.bounded, piece-short (first g at.After-without), piece-short (last g at.After-without-2));
    }

pub returns-then-start-end-2 : goal.returns-then-start-end-2
returns-then-start-end-2 g c =
    let now = c.args.self.now in
    let one = first g (goal.at.returns-then-start-end-2 g c).After-without in
    let new = without-it one c.args.start c.args.end (omega arith) (omega arith) c.args.from c.args.to c.in_ok-chunks.chunks.items c.in_ok-chunks.ensures.cut c.in_ok-chunks.ensures.limits in
    record {
      list = new.list ∙ sym (left-one c.args.from c.args.to c.args.start c.args.end now.pieces c.if-start-end-2.true c.requires.within);
      chunks = new.chunks;
      limits = new.among;
      lengths = longest-cut c.args.start now.pieces (map g.C.Chunk.list c.in_ok-chunks.chunks.items) c.args.from c.args.to new.list;
      steps = record {
        counted = c.without.ensures.steps.counted;
        bounded = omega (arith, c.without.ensures.steps.bounded, piece-short one);
      };
    }

pub returns : goal.returns
returns g c =
    let now = c.args.self.now in
    let from = c.args.from in
    let to = c.args.to in
    let at = goal.at.returns g c in
    let cs = c.in_ok-chunks.chunks.items in
    let ds = c.in_ok-rest.rest.items in
    let all = c.append.new.self.items in
    let one = first g at.After-without in
    let two = last g at.After-without-2 in
    let front = without-it one c.args.start c.args.end (omega arith) (omega arith) from to cs c.in_ok-chunks.ensures.cut c.in_ok-chunks.ensures.limits in
    let back = without-it two c.args.start c.args.end (omega arith) (omega arith) from to ds c.in_ok-rest.ensures.cut c.in_ok-rest.ensures.limits in
    let both = both-new g.C.Chunk.list g.C.Chunk.most cs ds all c.in_ok-append.ensures.items front back in
    record {
      list = both.list ∙ sym (left-two from to c.args.start c.args.end now.pieces c.requires (omega arith));
      chunks = both.chunks;
      limits = both.among;
      lengths = both-short g.C.Chunk.list g.C.Chunk.most cs ds all c.in_ok-append.ensures.items (longest now.pieces)
          (longest-cut c.args.start now.pieces (map g.C.Chunk.list cs) from to front.list) (longest-cut (c.args.end - 1) now.pieces (map g.C.Chunk.list ds) from to back.list);
      steps = record {
        counted = omega (arith, c.without.ensures.steps.counted, c.without-2.ensures.steps.counted);
        bounded = omega (arith, c.without.ensures.steps.bounded, c.without-2.ensures.steps.bounded, piece-short one, piece-short two);
      };
    }
