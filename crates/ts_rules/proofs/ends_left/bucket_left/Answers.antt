use Rattle.std.proofs.Common.{arith}
use Rattle.ts_series.specs.History.{list_of, reach}
use Rattle.ts_rules.specs.Deletions.{left_of}
use Rattle.ts_rules.proofs.BucketLeft.{both-scanned, one-scan, found-left, room-early, room-late, counts-left, tells-left}
use Rattle.ts_rules.proofs.ends_left.bucket_left.Goals as goal

pub scan_until-requires : goal.scan_until-requires
scan_until-requires g c =
    room-early c.args.rule.now.grid c.args.deletion.now.from c.args.deletion.now.to c.args.time c.start_of-first.result c.last_of-last.result (list_of c.args.deletion.now.source.now)
    c.known-2.ensures c.known.ensures.kept.ascending c.known.ensures.times c.requires.from c.requires.to c.requires.time c.start_of-first.ensures c.last_of-last.ensures
    c.args.rule.now.made c.new-counted.result c.new-counted.ensures.empty

pub scan_until-requires-2 : goal.scan_until-requires-2
scan_until-requires-2 g c =
    room-late c.args.rule.now.grid c.args.deletion.now.from c.args.deletion.now.to c.args.time c.start_of-first.result c.last_of-last.result (list_of c.args.deletion.now.source.now)
    c.known-2.ensures c.known.ensures.kept.ascending c.known.ensures.times c.requires.from c.requires.to c.requires.time c.start_of-first.ensures c.last_of-last.ensures
    c.args.rule.now.made c.new-counted.result c.new-counted.ensures.empty c.scan_until.new.visit c.scan_until.ensures.visited

pub returns-in-Some-clause-running : goal.returns-in-Some-clause-running
returns-in-Some-clause-running g c =
    found-left c.args.rule.now.grid c.args.deletion.now.from c.args.deletion.now.to c.args.time c.start_of-first.result c.last_of-last.result (list_of c.args.deletion.now.source.now)
    c.known-2.ensures c.known.ensures.kept.ascending c.known.ensures.times c.requires.from c.requires.to c.requires.time c.start_of-first.ensures c.last_of-last.ensures
    c.args.rule.now.made c.in-Some.running
    (c.find.ensures (left_of c.args.deletion.now.source.now c.args.deletion.now.from c.args.deletion.now.to) c.requires.shared c.in-Some.running c.in-Some.is)

pub returns-clause-running : goal.returns-clause-running
returns-clause-running g c =
    counts-left c.args.rule.now.grid c.args.deletion.now.from c.args.deletion.now.to c.args.time c.start_of-first.result c.last_of-last.result (list_of c.args.deletion.now.source.now)
    c.known-2.ensures c.known.ensures.kept.ascending c.known.ensures.times c.requires.from c.requires.to c.requires.time c.start_of-first.ensures c.last_of-last.ensures
    c.args.rule.now.made c.new-counted.result c.new-counted.ensures.empty c.scan_until.new.visit c.scan_until.ensures.visited c.scan_until-2.new.visit c.scan_until-2.ensures.visited
    c.running-running.result c.running-running.ensures c.new-counted.ensures.told

pub returns-clause-shared : goal.returns-clause-shared
returns-clause-shared g c =
    c.keep.ensures (left_of c.args.deletion.now.source.now c.args.deletion.now.from c.args.deletion.now.to) c.requires.shared
    (tells-left c.args.rule.now.grid c.args.deletion.now.from c.args.deletion.now.to c.args.time c.start_of-first.result c.last_of-last.result (list_of c.args.deletion.now.source.now)
    c.known-2.ensures c.known.ensures.kept.ascending c.known.ensures.times c.requires.from c.requires.to c.requires.time c.start_of-first.ensures c.last_of-last.ensures
    c.args.rule.now.made c.new-counted.result c.new-counted.ensures.empty c.scan_until.new.visit c.scan_until.ensures.visited c.scan_until-2.new.visit c.scan_until-2.ensures.visited
    c.running-running.result c.running-running.ensures c.new-counted.ensures.told c.new-counted.ensures.least c.least.result c.least.ensures)

pub returns-clause-steps : goal.returns-clause-steps
returns-clause-steps g c =
    let all = both-scanned c.args.rule.now.grid c.args.deletion.now.from c.args.deletion.now.to c.args.time c.start_of-first.result c.last_of-last.result (list_of c.args.deletion.now.source.now)
    c.known-2.ensures c.known.ensures.kept.ascending c.known.ensures.times c.requires.from c.requires.to c.requires.time c.start_of-first.ensures c.last_of-last.ensures in
    record {
      counted = omega (arith, c.scan_until.ensures.steps.counted, c.scan_until-2.ensures.steps.counted);
      bounded = omega (arith, c.scan_until.ensures.steps.bounded, c.scan_until-2.ensures.steps.bounded, all);
    }

pub returns-clause-one_side : goal.returns-clause-one_side
returns-clause-one_side g c = λ other.
    one-scan c.args.rule.now.grid c.args.deletion.now.from c.args.deletion.now.to c.args.time c.start_of-first.result c.last_of-last.result (list_of c.args.deletion.now.source.now)
    c.known-2.ensures c.known.ensures.kept.ascending c.known.ensures.times c.requires.from c.requires.to c.requires.time c.start_of-first.ensures c.last_of-last.ensures
    (reach c.args.deletion.now.source.now) other c.scan_until.ensures.none c.scan_until.ensures.steps.bounded c.scan_until-2.ensures.none c.scan_until-2.ensures.steps.bounded
