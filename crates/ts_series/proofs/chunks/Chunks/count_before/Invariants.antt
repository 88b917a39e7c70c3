use Rattle.std.proofs.Common.{◌≡◌, take, length}
use Rattle.ts_sample.specs.Chunk.{joined}
use Rattle.ts_series.proofs.chunks.Chunks.count_before.Given as goal

abbrev pub invariant-loop-earlier : goal.invariant-loop-earlier
invariant-loop-earlier g l = l.count ≡ length (joined (take l.earlier l.self.pieces))
