use Rattle.std.proofs.Common.{◌∙◌, ap, length, arith}
use Rattle.ts_sample.specs.Visit.{visited}
use Rattle.ts_chunk_packed.proofs.Starting.{rest_between, shorter}
use Rattle.ts_chunk_packed.proofs.chunk.PackedChunkChunk.scan.Goals as goal

pub walk-requires : goal.walk-requires
walk-requires g c =
    record { room = omega (arith, ap length (rest_between c.args.from c.args.self.now.list c.rest_from.result c.rest_from.ensures c.args.to), c.requires.room) }

pub returns-clause-visited : goal.returns-clause-visited
returns-clause-visited g c =
    c.walk.ensures.visited
    ∙ ap (visited g.V.Visit.step c.args.visit.now) (rest_between c.args.from c.args.self.now.list c.rest_from.result c.rest_from.ensures c.args.to)

pub returns-clause-counted : goal.returns-clause-counted
returns-clause-counted g c =
    omega (arith, c.walk.ensures.counted, ap length (rest_between c.args.from c.args.self.now.list c.rest_from.result c.rest_from.ensures c.args.to))

pub returns-clause-bounded : goal.returns-clause-bounded
returns-clause-bounded g c =
    omega (arith, c.walk.ensures.bounded, shorter c.args.self.now.list c.rest_from.result c.rest_from.result c.rest_from.ensures.rest)
