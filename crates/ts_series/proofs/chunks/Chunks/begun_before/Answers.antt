use Rattle.std.proofs.Common.{drop, arith}
use Rattle.ts_sample.specs.Chunk.{joined}
use Rattle.ts_series.proofs.TimeFor.{before-next, from-first}
use Rattle.ts_series.proofs.chunks.Chunks.begun_before.Goals as goal

pub returns-then-time-eq0-clause-later : goal.returns-then-time-eq0-clause-later
returns-then-time-eq0-clause-later g c = from-first c.args.time (joined c.args.self.now.pieces) (omega (arith, c.if-time-eq0.true))

pub returns-clause-later : goal.returns-clause-later
returns-clause-later g c =
    before-next c.args.time (joined (drop c.upto.result c.args.self.now.pieces)) (omega (arith, c.if-time-eq0.false)) c.upto.ensures.later
