use Rattle.std.proofs.Common.{length, ap, arith}
use Rattle.ts_series.specs.Stored.{points}
use Rattle.ts_series.proofs.EdgeQuestions.{shown, length-from}
use Rattle.ts_series.proofs.chunked_series.ChunkedSeries.len.Goals as goal

pub overflow_sub-result : goal.overflow_sub-result
overflow_sub-result g c = omega (arith, c.len.ensures, c.count_before.ensures.count, length-from c.edge.result (points c.self.inside.chunks))

pub returns-clause-len : goal.returns-clause-len
returns-clause-len g c =
    omega (
      arith,
      c.len.ensures,
      c.count_before.ensures.count,
      length-from c.edge.result (points c.self.inside.chunks),
      ap length (shown c.self.view_is c.edge.ensures),
    )
