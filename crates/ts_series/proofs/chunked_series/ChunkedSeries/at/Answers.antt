use Rattle.std.proofs.Common.{◌∙◌, ap, arith}
use Rattle.ts_spec.specs.Sample.{at}
use Rattle.ts_series.specs.Stored.{points}
use Rattle.ts_series.proofs.EdgeQuestions.{shown, at-from, at-below}
use Rattle.ts_series.proofs.chunked_series.ChunkedSeries.at.Goals as goal

pub returns-then-t-edge-clause-at : goal.returns-then-t-edge-clause-at
returns-then-t-edge-clause-at g c =
    at-below c.edge.result (points c.self.inside.chunks) c.args.t (omega (arith, c.if-t-edge.true)) ∙ ap (at c.args.t) (shown c.self.view_is c.edge.ensures)

pub returns-else-t-edge-clause-at : goal.returns-else-t-edge-clause-at
returns-else-t-edge-clause-at g c =
    c.at.ensures.at ∙ at-from c.edge.result (points c.self.inside.chunks) c.args.t (omega (arith, c.if-t-edge.false))
    ∙ ap (at c.args.t) (shown c.self.view_is c.edge.ensures)
