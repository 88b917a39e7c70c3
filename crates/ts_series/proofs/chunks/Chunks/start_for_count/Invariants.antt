use Rattle.std.proofs.Common.{◌≡◌, ◌+◌, length, take}
use Rattle.ts_sample.specs.Chunk.{joined}
use Rattle.ts_series.proofs.chunks.Chunks.start_for_count.Given as goal

abbrev pub invariant-loop-place : goal.invariant-loop-place
invariant-loop-place g l = l.found + length (joined (take l.place l.self.pieces)) ≡ length (joined (take l.end l.self.pieces))
