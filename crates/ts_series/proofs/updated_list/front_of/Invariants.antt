use Rattle.std.proofs.Common.{◌≡◌, ◌∷◌, take}
use Rattle.ts_series.proofs.updated_list.front_of.Given as goal

-- it has the first sample and those so far
abbrev pub invariant-loop-sample : goal.invariant-loop-sample
invariant-loop-sample g l = (g.C.Chunk.list l.chunk ≡ l.first ∷ take l.sample-index l.rest) × (g.C.Chunk.most l.chunk ≡ l.fn.limit)
