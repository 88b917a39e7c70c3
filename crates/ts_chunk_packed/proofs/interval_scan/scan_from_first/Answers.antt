use Rattle.std.proofs.Common.{sym, ap, length, arith}
use Rattle.ts_spec.specs.Sample.{Point}
use Rattle.ts_sample.specs.Visit.{visited}
use Rattle.ts_chunk_packed.proofs.Walking.{stopped}
use Rattle.ts_chunk_packed.proofs.interval_scan.scan_from_first.Goals as goal

pub returns-then-first-to-clause-visited : goal.returns-then-first-to-clause-visited
returns-then-first-to-clause-visited g c =
    let time = ap (λ (p : Point). p.time) c.first.view_is in
    sym (ap (visited g.V.Visit.step c.args.visit.now) (stopped c.args.from c.args.to c.args.first.now c.args.others.list c.requires.ascending (omega (arith, time))))

pub returns-then-first-to-clause-counted : goal.returns-then-first-to-clause-counted
returns-then-first-to-clause-counted g c =
    let time = ap (λ (p : Point). p.time) c.first.view_is in
    omega (arith, ap length (stopped c.args.from c.args.to c.args.first.now c.args.others.list c.requires.ascending (omega (arith, time))), c.tick.ensures)
