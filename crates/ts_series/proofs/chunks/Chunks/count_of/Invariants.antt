use Rattle.std.proofs.Common.{◌≡◌, ◌+◌, length, take}
use Rattle.ts_sample.specs.Chunk.{joined}
use Rattle.ts_series.proofs.chunks.Chunks.count_of.Given as goal

abbrev pub invariant-loop-place : goal.invariant-loop-place
invariant-loop-place g l = l.count + length (joined (take l.fn.start l.fn.self.pieces)) ≡ length (joined (take l.place l.fn.self.pieces))
