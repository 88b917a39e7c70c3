use Rattle.std.proofs.Common.{take, arith}
use Rattle.ts_sample.specs.Chunk.{joined}
use Rattle.ts_series.proofs.TimeFrom.{upto-next}
use Rattle.ts_series.proofs.chunks.Chunks.ended_by.Goals as goal

pub returns-clause-earlier : goal.returns-clause-earlier
returns-clause-earlier g c =
    upto-next c.args.time c.saturating_add.result (joined (take c.before-2.result c.args.self.now.pieces)) (omega (arith, c.saturating_add.ensures)) c.before-2.ensures.earlier
