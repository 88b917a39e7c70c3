use Rattle.std.proofs.Common.{inl, inr, length, ap, arith}
use Rattle.ts_series.proofs.EdgeQuestions.{between-shown}
use Rattle.ts_series.proofs.chunked_series.ChunkedSeries.end_for_count.Goals as goal

pub returns-clause-reach : goal.returns-clause-reach
returns-clause-reach g c =
    let end = c.end_for_count.result in
    let same = ap length (between-shown c.self.view_is c.edge.ensures c.args.from end c.max-start.ensures) in
    elim c.end_for_count.ensures.reach [ inl all ↦ inl all | inr enough ↦ inr (omega (arith, enough, same)) ]
