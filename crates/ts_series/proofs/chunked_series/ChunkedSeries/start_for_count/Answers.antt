use Rattle.std.proofs.Common.{inr, length, ap, arith}
use Rattle.ts_series.proofs.EdgeQuestions.{between-shown}
use Rattle.ts_series.proofs.chunked_series.ChunkedSeries.start_for_count.Goals as goal

pub returns-clause-reach : goal.returns-clause-reach
returns-clause-reach g c =
    let first = c.start_for_count-time.result in
    let same = ap length (between-shown c.self.view_is c.edge.ensures first c.args.to {start = first} (omega (arith, c.max-start.ensures, c.start_for_count-time.ensures.within))) in
    inr (omega (arith, same))
