use Rattle.std.proofs.Common.{◌^◌}
use Rattle.ts_chunk_packed.proofs.Ungrouping.{not_ended}
use Rattle.ts_chunk_packed.proofs.varint.read.Goals as goal

pub bounds-bytes-0 : goal.bounds-bytes-0
bounds-bytes-0 c = not_ended (2 ^ 64) c.args.bytes.now c.requires

pub slice_bounds-result-count : goal.slice_bounds-result-count
slice_bounds-result-count c = not_ended (2 ^ 64) c.args.bytes.now c.requires

pub slice_bounds-result-start : goal.slice_bounds-result-start
slice_bounds-result-start c = not_ended (2 ^ 64) c.args.bytes.now c.requires
