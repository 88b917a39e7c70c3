use Rattle.std.proofs.Common.{◌≡◌, take}
use Rattle.ts_sample.proofs.changed.whole.Given as goal

abbrev pub invariant-loop-sample : goal.invariant-loop-sample
invariant-loop-sample g l = (g.C.Chunk.list l.chunk ≡ take l.sample-index l.samples) × (g.C.Chunk.most l.chunk ≡ l.fn.limit)
