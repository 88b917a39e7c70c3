use Rattle.std.proofs.Common.{◌≡◌, ◌^◌, arith}
use Rattle.std.proofs.lemmas.Int.{ints}
use Rattle.ts_chunk_packed.specs.Packed.{number_of}
use Rattle.ts_chunk_packed.proofs.Ungrouping.{not_ended, number_done, started}
use Rattle.ts_chunk_packed.proofs.Zigzags.{unzigzag_even}
use Rattle.ts_chunk_packed.proofs.coding.made_after.Goals as goal

pub bounds-bytes-0 : goal.bounds-bytes-0
bounds-bytes-0 c = not_ended (2 ^ 64) c.args.bytes.now c.requires.begins

pub slice_bounds-result-count : goal.slice_bounds-result-count
slice_bounds-result-count c = not_ended (2 ^ 64) c.args.bytes.now c.requires.begins

pub slice_bounds-result-start : goal.slice_bounds-result-start
slice_bounds-result-start c = not_ended (2 ^ 64) c.args.bytes.now c.requires.begins

pub returns-then-bytes-eq0-clause-made : goal.returns-then-bytes-eq0-clause-made
returns-then-bytes-eq0-clause-made c =
    let bytes = c.args.bytes.now in
    let begins = c.requires.begins in
    let none : (number_of bytes).0 ≡ 0 = omega (arith, number_done (2 ^ 64) bytes 0 0 1 (not_ended (2 ^ 64) bytes begins) (started (2 ^ 64) bytes begins) (omega arith)) in
    omega (arith, ints, none, unzigzag_even (number_of bytes).0 (omega (arith, none)))
