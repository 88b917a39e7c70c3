use Rattle.std.proofs.Common.{◌<◌, sym, ap, ◌∙◌, get_or, length, [], arith}
use Rattle.ts_sample.specs.Visit.{visited}
use Rattle.ts_chunk_plain.specs.Plain.{sample_of}
use Rattle.ts_chunk_plain.proofs.Walking.{none_left}
use Rattle.ts_chunk_plain.proofs.pieces.scan_pieces.Goals as goal

pub returns-then-time_of-to : goal.returns-then-time_of-to
returns-then-time_of-to g c =
    let bs = c.args.pieces.now in
    let i = c.loop-piece.piece-index in
    let sofar = c.loop-piece.invariant in
    let past : c.args.to < (sample_of (get_or bs i [])).time = omega (arith, c.time_of.ensures, c.if-time_of-to.true) in
    let none = none_left c.args.to bs i c.loop-piece-test.true sofar.ascending past in
    record {
      visited = sym (ap (visited g.V.Visit.step c.loop-piece.visit) none) ∙ sofar.visited;
      counted = omega (arith, ap length none, sofar.counted, c.tick.ensures);
      bounded = omega (arith, sofar.bounded, c.tick.ensures, c.loop-piece-test.true);
    }
