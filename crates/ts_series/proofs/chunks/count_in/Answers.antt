use Rattle.std.proofs.Common.{◌+◌, ◌<◌, length, map, refl, arith}
use Rattle.std.proofs.lemmas.List.{length-map}
use Rattle.ts_series.proofs.PieceCounts.{counted-item, counted-part}
use Rattle.ts_series.proofs.chunks.count_in.Goals as goal

pub overflow_add-count : goal.overflow_add-count
overflow_add-count g c =
    let i = c.loop-chunk.chunk-index in
    let cs = c.args.chunks.now in
    let within : i < length (map g.C.Chunk.list cs) = omega (arith, length-map cs g.C.Chunk.list) in
    let more = counted-item g.C.Chunk.list i (i + 1) cs (map g.C.Chunk.list cs) c.chunk-item.result refl within c.chunk-item.is (omega arith) in
    omega (arith, more, counted-part (i + 1) (map g.C.Chunk.list cs), c.loop-chunk.invariant, c.requires, c.len-count.ensures)

pub loop-chunk-preserved : goal.loop-chunk-preserved
loop-chunk-preserved g c =
    let i = c.loop-chunk.chunk-index in
    let cs = c.args.chunks.now in
    let within : i < length (map g.C.Chunk.list cs) = omega (arith, length-map cs g.C.Chunk.list) in
    let more = counted-item g.C.Chunk.list i (i + 1) cs (map g.C.Chunk.list cs) c.chunk-item.result refl within c.chunk-item.is (omega arith) in
    omega (arith, more, c.loop-chunk.invariant, c.len-count.ensures)
