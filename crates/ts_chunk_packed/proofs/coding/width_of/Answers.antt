use Rattle.std.proofs.Common.{◌<◌, ◌^◌, arith, rules}
use Rattle.ts_chunk_packed.specs.Numbers.{most_bytes}
use Rattle.ts_chunk_packed.proofs.Coded.{their_lengths}
use Rattle.ts_chunk_packed.proofs.coding.width_of.Goals as goal

pub overflow_add-result : goal.overflow_add-result
overflow_add-result c =
    let n = c.numbers_of-numbers.result in
    let time : n.time < 2 ^ 64 = search rules in
    let value : n.value < 2 ^ 128 = search rules in
    omega (arith, most_bytes 9 n.time (omega arith), most_bytes 18 n.value (omega arith))

pub overflow_add-result-2 : goal.overflow_add-result-2
overflow_add-result-2 c =
    let n = c.numbers_of-numbers.result in
    let time : n.time < 2 ^ 64 = search rules in
    let value : n.value < 2 ^ 128 = search rules in
    let made : n.made < 2 ^ 64 = search rules in
    omega (arith, most_bytes 9 n.time (omega arith), most_bytes 18 n.value (omega arith), most_bytes 9 n.made (omega arith))

pub returns : goal.returns
returns c =
    let n = c.numbers_of-numbers in
    omega (arith, their_lengths c.args.context.now c.args.sample.now n.result.time n.result.value n.result.made n.ensures.time n.ensures.value n.ensures.made)
