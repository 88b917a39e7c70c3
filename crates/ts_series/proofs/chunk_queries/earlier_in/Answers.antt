use Rattle.std.proofs.Common.{◌-◌, ◌≤◌, length, sym, ◌∙◌, ap, arith}
use Rattle.ts_spec.specs.Sample.{Point, between, last_of}
use Rattle.ts_series.specs.declared.chunk_queries.ScanEnds.{ScanEnds}
use Rattle.ts_series.proofs.OneChunk.{few, room-for, before-is, none-earlier, ends-last, ends-count}
use Rattle.ts_series.proofs.chunk_queries.earlier_in.Goals as goal

pub scan-requires : goal.scan-requires
scan-requires g c =
    let ps = g.C.Chunk.list c.args.chunk.now in
    record { room = room-for 0 (c.args.time - 1) c.new-ends.result.count ps (few g.C.Chunk.format (g.C.Chunk.most c.args.chunk.now) ps c.known.ensures g.met.C.Chunk.at_least) c.new-ends.ensures.count }

pub returns-then-first-time : goal.returns-then-first-time
returns-then-first-time g c =
    let ps = g.C.Chunk.list c.args.chunk.now in
    let before = before-is c.args.time ps (omega (arith, c.if-first-time.true)) in
    record {
      last = ap (λ (e : ScanEnds). e.last) c.scan.ensures.visited ∙ ends-last c.new-ends.result (between 0 (c.args.time - 1) ps) c.new-ends.ensures.last ∙ ap last_of before;
      count = ap (λ (e : ScanEnds). e.count) c.scan.ensures.visited ∙ ends-count c.new-ends.result (between 0 (c.args.time - 1) ps) c.new-ends.ensures.count ∙ ap length before;
      steps = record {
        counted = omega (arith, c.scan.ensures.counted);
        bounded = c.scan.ensures.bounded;
      };
    }

pub returns-else-first-time : goal.returns-else-first-time
returns-else-first-time g c =
    let low : c.args.time ≤ c.in-Some.first.time = omega (arith, c.if-first-time.false, ap (λ (p : Point). p.time) c.first-2.view_is) in
    let none = none-earlier c.args.time (g.C.Chunk.list c.args.chunk.now) c.in-Some.first c.known.ensures.ascending (sym c.first.ensures ∙ c.in-Some.is) low in
    record {
      last = c.new-ends.ensures.last ∙ sym (ap last_of none);
      count = c.new-ends.ensures.count ∙ sym (ap length none);
      steps = record {
        counted = omega arith;
        bounded = omega arith;
      };
    }
