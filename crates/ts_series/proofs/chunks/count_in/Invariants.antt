use Rattle.std.proofs.Common.{◌≡◌, length, map, take}
use Rattle.ts_sample.specs.Chunk.{joined}
use Rattle.ts_series.proofs.chunks.count_in.Given as goal

abbrev pub invariant-loop-chunk : goal.invariant-loop-chunk
invariant-loop-chunk g l = l.count ≡ length (joined (take l.chunk-index (map g.C.Chunk.list l.chunks)))
