use Rattle.std.proofs.Common.{arith}
use Rattle.ts_series.proofs.Reach.{new-within-reach}
use Rattle.ts_series.proofs.SeamsAround.{around-series, cut-series}
use Rattle.ts_series.proofs.chunked_series.ChunkedSeries.chunk_reach.Goals as goal

pub returns-clause-within : goal.returns-clause-within
returns-clause-within g c = new-within-reach c.new_limit.result c.from.result c.self.view_is c.new_limit.ensures.limit (omega (arith, c.from.ensures))

pub returns-clause-around : goal.returns-clause-around
returns-clause-around g c =
    around-series g.C.Chunk.format g.met.C.Chunk.at_least c.self.inside.options c.self.inside.high c.self.inside.born c.self.inside.chunks c.args.self.now c.self.invariant c.self.view_is

pub returns-clause-cuts : goal.returns-clause-cuts
returns-clause-cuts g c =
    cut-series g.C.Chunk.format g.met.C.Chunk.at_least c.self.inside.options c.self.inside.high c.self.inside.born c.self.inside.chunks c.args.self.now c.self.invariant c.self.view_is
