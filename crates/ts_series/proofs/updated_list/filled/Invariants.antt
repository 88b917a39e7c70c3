use Rattle.std.proofs.Common.{◌≡◌, ◌≤◌, ◌-◌, length, take, map}
use Rattle.ts_sample.specs.Chunk.{HaveLimit, joined}
use Rattle.ts_series.specs.Stored.{AreChunks}
use Rattle.ts_series.proofs.updated_list.filled.Given as goal

-- so many samples are in the chunks
abbrev pub invariant-loop-first : goal.invariant-loop-first
invariant-loop-first g l = record {
  list : joined (map g.C.Chunk.list l.chunks.items) ≡ take l.count l.samples;
  within : l.count ≤ length l.samples;
  chunks : AreChunks g.C.Chunk.format (map g.C.Chunk.list l.chunks.items) (map g.C.Chunk.most l.chunks.items);
  limits : HaveLimit g.C.Chunk.most l.fn.limit l.chunks.items;
}

abbrev pub decreases-loop-first : goal.decreases-loop-first
decreases-loop-first g l = length l.samples - l.count
