use Rattle.std.proofs.Common.{length, ap, ◌∙◌, arith}
use Rattle.ts_spec.specs.Sample.{MAX_TIME, between}
use Rattle.ts_sample.proofs.Replacing.{between-all}
use Rattle.ts_sample.proofs.Visiting.{list-gathered}
use Rattle.ts_sample.proofs.changed.decoded.Goals as goal

pub scan-requires : goal.scan-requires
scan-requires g c =
    let all = ap length (between-all (g.C.Chunk.list c.args.chunk.now) c.known.ensures.fine) in
    record { room = omega (arith, c.in_ok-gathered.ensures.room, c.len.ensures) }

pub returns-clause-list : goal.returns-clause-list
returns-clause-list g c =
    let ps = g.C.Chunk.list c.args.chunk.now in
    let gathered = list-gathered c.in_ok-gathered.gathered c.scan.new.visit (between 0 MAX_TIME ps) c.in_ok-gathered.ensures.empty c.scan.ensures.visited in
    c.into_samples.ensures ∙ gathered ∙ between-all ps c.known.ensures.fine
