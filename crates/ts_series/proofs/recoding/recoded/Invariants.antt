use Rattle.std.proofs.Common.{◌≡◌, ◌-◌, length, take}
use Rattle.ts_series.proofs.recoding.recoded.Given as goal

abbrev pub invariant-loop-sample : goal.invariant-loop-sample
invariant-loop-sample g l = record {
  list : g.D.Chunk.list l.copy ≡ take (g.C.Chunk.passed l.place) (g.C.Chunk.list l.chunk);
  limit : g.D.Chunk.most l.copy ≡ g.C.Chunk.most l.chunk;
  place : g.C.Chunk.is_place (g.C.Chunk.list l.chunk) l.place;
}

abbrev pub decreases-loop-sample : goal.decreases-loop-sample
decreases-loop-sample g l = length (g.C.Chunk.list l.chunk) - g.C.Chunk.passed l.place
