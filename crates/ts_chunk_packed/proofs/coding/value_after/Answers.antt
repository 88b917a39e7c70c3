use Rattle.std.proofs.Common.{◌^◌, arith}
use Rattle.ts_chunk_packed.proofs.Ungrouping.{byte_there, bytes_after}
use Rattle.ts_chunk_packed.proofs.coding.value_after.Goals as goal

pub bounds-bytes-0 : goal.bounds-bytes-0
bounds-bytes-0 c = byte_there (2 ^ 120) c.args.bytes.now c.requires.begins 0 tt

pub slice_bounds-result-count : goal.slice_bounds-result-count
slice_bounds-result-count c = byte_there (2 ^ 120) c.args.bytes.now c.requires.begins 0 tt

pub slice_bounds-result-start : goal.slice_bounds-result-start
slice_bounds-result-start c = byte_there (2 ^ 120) c.args.bytes.now c.requires.begins 0 tt

pub bounds-bytes-1 : goal.bounds-bytes-1
bounds-bytes-1 c = byte_there (2 ^ 120) c.args.bytes.now c.requires.begins 1 (tt, omega arith)

pub slice_bounds-result-count-then-second-lt128 : goal.slice_bounds-result-count-then-second-lt128
slice_bounds-result-count-then-second-lt128 c = byte_there (2 ^ 120) c.args.bytes.now c.requires.begins 1 (tt, omega arith)

pub slice_bounds-result-start-then-second-lt128 : goal.slice_bounds-result-start-then-second-lt128
slice_bounds-result-start-then-second-lt128 c = byte_there (2 ^ 120) c.args.bytes.now c.requires.begins 1 (tt, omega arith)

pub bounds-bytes-2 : goal.bounds-bytes-2
bounds-bytes-2 c = byte_there (2 ^ 120) c.args.bytes.now c.requires.begins 2 ((tt, omega arith), omega arith)

pub slice_bounds-result-count-then-third-lt128 : goal.slice_bounds-result-count-then-third-lt128
slice_bounds-result-count-then-third-lt128 c = byte_there (2 ^ 120) c.args.bytes.now c.requires.begins 2 ((tt, omega arith), omega arith)

pub slice_bounds-result-start-then-third-lt128 : goal.slice_bounds-result-start-then-third-lt128
slice_bounds-result-start-then-third-lt128 c = byte_there (2 ^ 120) c.args.bytes.now c.requires.begins 2 ((tt, omega arith), omega arith)

pub bounds-bytes-3 : goal.bounds-bytes-3
bounds-bytes-3 c = byte_there (2 ^ 120) c.args.bytes.now c.requires.begins 3 (((tt, omega arith), omega arith), omega arith)

pub slice_bounds-result-count-then-fourth-lt128 : goal.slice_bounds-result-count-then-fourth-lt128
slice_bounds-result-count-then-fourth-lt128 c = byte_there (2 ^ 120) c.args.bytes.now c.requires.begins 3 (((tt, omega arith), omega arith), omega arith)

pub slice_bounds-result-start-then-fourth-lt128 : goal.slice_bounds-result-start-then-fourth-lt128
slice_bounds-result-start-then-fourth-lt128 c = byte_there (2 ^ 120) c.args.bytes.now c.requires.begins 3 (((tt, omega arith), omega arith), omega arith)

pub bounds-bytes-4 : goal.bounds-bytes-4
bounds-bytes-4 c = byte_there (2 ^ 120) c.args.bytes.now c.requires.begins 4 ((((tt, omega arith), omega arith), omega arith), omega arith)

pub slice_bounds-result-count-then-fifth-lt128 : goal.slice_bounds-result-count-then-fifth-lt128
slice_bounds-result-count-then-fifth-lt128 c = byte_there (2 ^ 120) c.args.bytes.now c.requires.begins 4 ((((tt, omega arith), omega arith), omega arith), omega arith)

pub slice_bounds-result-start-then-fifth-lt128 : goal.slice_bounds-result-start-then-fifth-lt128
slice_bounds-result-start-then-fifth-lt128 c = byte_there (2 ^ 120) c.args.bytes.now c.requires.begins 4 ((((tt, omega arith), omega arith), omega arith), omega arith)

pub returns-then-fifth-lt128-clause-rest : goal.returns-then-fifth-lt128-clause-rest
returns-then-fifth-lt128-clause-rest c = bytes_after (2 ^ 120) c.args.bytes.now c.requires.begins 4 ((((tt, omega arith), omega arith), omega arith), omega arith) (omega arith)

pub bounds-bytes-5 : goal.bounds-bytes-5
bounds-bytes-5 c = byte_there (2 ^ 120) c.args.bytes.now c.requires.begins 5 (((((tt, omega arith), omega arith), omega arith), omega arith), omega arith)

pub slice_bounds-result-count-then-sixth-lt128 : goal.slice_bounds-result-count-then-sixth-lt128
slice_bounds-result-count-then-sixth-lt128 c = byte_there (2 ^ 120) c.args.bytes.now c.requires.begins 5 (((((tt, omega arith), omega arith), omega arith), omega arith), omega arith)

pub slice_bounds-result-start-then-sixth-lt128 : goal.slice_bounds-result-start-then-sixth-lt128
slice_bounds-result-start-then-sixth-lt128 c = byte_there (2 ^ 120) c.args.bytes.now c.requires.begins 5 (((((tt, omega arith), omega arith), omega arith), omega arith), omega arith)

pub returns-then-sixth-lt128-clause-rest : goal.returns-then-sixth-lt128-clause-rest
returns-then-sixth-lt128-clause-rest c = bytes_after (2 ^ 120) c.args.bytes.now c.requires.begins 5 (((((tt, omega arith), omega arith), omega arith), omega arith), omega arith) (omega arith)
