use Rattle.std.proofs.Common.{ap, ◌∙◌, length, arith}
use Rattle.ts_sample.specs.Visit.{visited}
use Rattle.ts_chunk_plain.proofs.Scanning.{ascending_there, fine_there, interval, no_more}
use Rattle.ts_chunk_plain.proofs.chunk.PlainChunkChunk.scan.Goals as goal

pub scan_pieces-requires : goal.scan_pieces-requires
scan_pieces-requires g c =
    let all = c.pieces-pieces in
    let start = c.lower_bound-start in
    let seen = interval c.args.from all.result.now start.result start.ensures.after c.args.to c.args.self.now.list all.ensures.list in
    record {
      ascending = ascending_there c.args.from all.result.now start.result start.ensures.after all.ensures.ascending;
      fine = fine_there c.args.from all.result.now start.result start.ensures.after all.ensures.fine;
      room = omega (arith, ap length seen, c.requires.room);
    }

pub returns : goal.returns
returns g c =
    let all = c.pieces-pieces in
    let start = c.lower_bound-start in
    let seen = interval c.args.from all.result.now start.result start.ensures.after c.args.to c.args.self.now.list all.ensures.list in
    record {
      visited = c.scan_pieces.ensures.visited ∙ ap (visited g.V.Visit.step c.args.visit.now) seen;
      counted = omega (arith, ap length seen, c.scan_pieces.ensures.counted);
      bounded = omega (arith, no_more c.args.from all.result.now start.result start.ensures.after c.args.self.now.list all.ensures.list, c.scan_pieces.ensures.bounded);
    }
