use Rattle.std.proofs.Common.{subst}
use Rattle.ts_series.specs.Stored.{Stored, AreChunks}
use Rattle.ts_series.proofs.Joined.{filled-at}
use Rattle.ts_series.proofs.chunks.Chunks.read_at.Goals as goal

pub returns-clause-filled : goal.returns-clause-filled
returns-clause-filled g c = λ less.
    let chunks = subst (λ (k : Stored). AreChunks g.C.Chunk.format k.pieces k.limits) c.self.view_is c.self.invariant.chunks in
    filled-at g.C.Chunk.format c.args.at c.args.self.now.pieces c.args.self.now.limits chunks less
