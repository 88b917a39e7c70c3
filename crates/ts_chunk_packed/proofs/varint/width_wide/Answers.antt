use Rattle.std.proofs.Common.{arith}
use Rattle.ts_chunk_packed.specs.Numbers.{some_bytes, most_bytes}
use Rattle.ts_chunk_packed.proofs.varint.width_wide.Goals as goal

pub overflow_add-width : goal.overflow_add-width
overflow_add-width c = omega (arith, most_bytes 18 c.args.natural (omega arith), some_bytes c.loop-rest.rest)

pub overflow_add-result : goal.overflow_add-result
overflow_add-result c = omega (arith, most_bytes 18 c.args.natural (omega arith), c.width.ensures)
