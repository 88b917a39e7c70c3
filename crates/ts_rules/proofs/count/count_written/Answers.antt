use Rattle.std.proofs.Common.{length, ap, arith}
use Rattle.ts_spec.specs.Sample.{Point, put}
use Rattle.ts_series.specs.History.{list_of}
use Rattle.ts_rules.proofs.CountWritten.{bucket-is, room-bucket, room-held, found-written, counts-written, tells-written}
use Rattle.ts_rules.proofs.count.count_written.Goals as goal

pub scan-requires : goal.scan-requires
scan-requires g c = record {
  room = room-bucket c.args.rule.now.grid c.args.wrote.now c.wrote.inside.time c.start_of-first.result c.last_of-last.result (list_of c.args.source.now)
      c.known-3.ensures c.known.ensures.kept.ascending c.known.ensures.times c.wrote.invariant (ap (λ (p : Point). p.time) c.wrote.view_is) c.start_of-first.ensures c.last_of-last.ensures
      c.args.rule.now.made c.new-counted.result c.new-counted.ensures.empty;
}

pub running-running-requires : goal.running-running-requires
running-running-requires g c = record {
  room = room-held c.args.rule.now.grid c.args.wrote.now c.wrote.inside.time c.start_of-first.result c.last_of-last.result (list_of c.args.source.now)
      c.known-3.ensures c.known.ensures.kept.ascending c.known.ensures.times c.wrote.invariant (ap (λ (p : Point). p.time) c.wrote.view_is) c.start_of-first.ensures c.last_of-last.ensures
      c.args.rule.now.made c.new-counted.result c.new-counted.ensures.empty c.scan.new.visit c.scan.ensures.visited;
}

pub returns-in-Some-clause-running : goal.returns-in-Some-clause-running
returns-in-Some-clause-running g c =
    found-written c.args.rule.now.grid c.args.wrote.now c.wrote.inside.time c.start_of-first.result c.last_of-last.result (list_of c.args.source.now)
    c.known-3.ensures c.known.ensures.kept.ascending c.known.ensures.times c.wrote.invariant (ap (λ (p : Point). p.time) c.wrote.view_is) c.start_of-first.ensures c.last_of-last.ensures
    c.args.rule.now.made c.in-Some.running (c.find.ensures (put c.args.wrote.now (list_of c.args.source.now)) c.requires.shared c.in-Some.running c.in-Some.is)

pub returns-clause-running : goal.returns-clause-running
returns-clause-running g c =
    counts-written c.args.rule.now.grid c.args.wrote.now c.wrote.inside.time c.start_of-first.result c.last_of-last.result (list_of c.args.source.now)
    c.known-3.ensures c.known.ensures.kept.ascending c.known.ensures.times c.wrote.invariant (ap (λ (p : Point). p.time) c.wrote.view_is) c.start_of-first.ensures c.last_of-last.ensures
    c.args.rule.now.made c.new-counted.result c.new-counted.ensures.empty c.scan.new.visit c.scan.ensures.visited c.running-running.result c.running-running.ensures c.new-counted.ensures.told

pub returns-clause-shared : goal.returns-clause-shared
returns-clause-shared g c =
    c.keep.ensures (put c.args.wrote.now (list_of c.args.source.now)) c.requires.shared
    (tells-written c.args.rule.now.grid c.args.wrote.now c.wrote.inside.time c.start_of-first.result c.last_of-last.result (list_of c.args.source.now)
    c.known-3.ensures c.known.ensures.kept.ascending c.known.ensures.times c.wrote.invariant (ap (λ (p : Point). p.time) c.wrote.view_is) c.start_of-first.ensures c.last_of-last.ensures
    c.args.rule.now.made c.new-counted.result c.new-counted.ensures.empty c.scan.new.visit c.scan.ensures.visited c.running-running.result c.running-running.ensures c.new-counted.ensures.told
    c.new-counted.ensures.least c.least-least.result c.least-least.ensures)

pub returns-clause-steps : goal.returns-clause-steps
returns-clause-steps g c = record {
  counted = omega (arith, c.scan.ensures.counted);
  bounded = omega (
    arith,
    c.scan.ensures.bounded,
    ap length (
        bucket-is c.args.rule.now.grid c.args.wrote.now c.wrote.inside.time c.start_of-first.result c.last_of-last.result (list_of c.args.source.now)
        c.known-3.ensures c.known.ensures.kept.ascending c.known.ensures.times c.wrote.invariant (ap (λ (p : Point). p.time) c.wrote.view_is) c.start_of-first.ensures c.last_of-last.ensures
        ),
  );
}
