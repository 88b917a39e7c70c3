use Rattle.std.proofs.Common.{◌∙◌}
use Rattle.ts_series.proofs.EdgeQuestions.{from-shown}
use Rattle.ts_series.proofs.chunked_series.ChunkedSeries.read_from.Goals as goal

pub returns-clause-left : goal.returns-clause-left
returns-clause-left g c = c.read_from.ensures.left ∙ from-shown c.self.view_is c.edge.ensures c.args.from c.max.ensures
