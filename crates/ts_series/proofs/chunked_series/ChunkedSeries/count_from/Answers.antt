use Rattle.std.proofs.Common.{length, ap, arith}
use Rattle.ts_series.specs.Stored.{points}
use Rattle.ts_series.proofs.EdgeQuestions.{from-shown, length-from}
use Rattle.ts_series.proofs.chunked_series.ChunkedSeries.count_from.Goals as goal

pub overflow_sub-result : goal.overflow_sub-result
overflow_sub-result g c = omega (arith, c.len.ensures, c.count_before.ensures.count, length-from c.max.result (points c.self.inside.chunks))

pub returns-clause-count : goal.returns-clause-count
returns-clause-count g c =
    omega (
      arith,
      c.len.ensures,
      c.count_before.ensures.count,
      length-from c.max.result (points c.self.inside.chunks),
      ap length (from-shown c.self.view_is c.edge.ensures c.args.time c.max.ensures),
    )
