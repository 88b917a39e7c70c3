use Rattle.std.proofs.Common.{length, ◌∙◌, ap, arith}
use Rattle.ts_sample.specs.Visit.{visited}
use Rattle.ts_series.proofs.EdgeQuestions.{between-shown}
use Rattle.ts_series.proofs.Reach.{within_reach}
use Rattle.ts_series.proofs.chunked_series.ChunkedSeries.scan.Goals as goal

pub scan-requires : goal.scan-requires
scan-requires g c =
    let same = between-shown c.self.view_is c.edge.ensures c.args.from c.args.to c.max.ensures in
    record { room = omega (arith, c.requires.room, ap length same) }

pub returns-clause-visited : goal.returns-clause-visited
returns-clause-visited g c =
    c.scan.ensures.visited ∙ ap (visited g.V.Visit.step c.args.visit.now) (between-shown c.self.view_is c.edge.ensures c.args.from c.args.to c.max.ensures)

pub returns-clause-counted : goal.returns-clause-counted
returns-clause-counted g c = omega (arith, c.scan.ensures.counted, ap length (between-shown c.self.view_is c.edge.ensures c.args.from c.args.to c.max.ensures))

pub returns-clause-bounded : goal.returns-clause-bounded
returns-clause-bounded g c =
    let same = ap length (between-shown c.self.view_is c.edge.ensures c.args.from c.args.to c.max.ensures) in
    omega (arith, c.scan.ensures.bounded, same, within_reach g.met.C.Chunk.at_least c.self.invariant c.self.view_is)
