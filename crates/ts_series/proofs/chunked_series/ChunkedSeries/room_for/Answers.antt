use Rattle.std.proofs.Common.{length, ap, arith}
use Rattle.ts_series.proofs.EdgeQuestions.{between-shown}
use Rattle.ts_series.proofs.Reach.{within_reach}
use Rattle.ts_series.proofs.chunked_series.ChunkedSeries.room_for.Goals as goal

pub returns : goal.returns
returns g c =
    let same = ap length (between-shown c.self.view_is c.edge.ensures c.args.from c.args.to c.max.ensures) in
    record {
      least = omega (arith, c.count_upper_bound.ensures.least, same);
      most = omega (arith, c.count_upper_bound.ensures.most, same, within_reach g.met.C.Chunk.at_least c.self.invariant c.self.view_is);
    }
