use Rattle.std.proofs.Common.{ℕ, List, ◌++◌, ◌∙◌, ap, arith}
use Rattle.ts_chunk_packed.specs.Packed.{number}
use Rattle.ts_chunk_packed.proofs.Coded.{their_lengths, written_on}
use Rattle.ts_chunk_packed.proofs.coding.encode.Goals as goal

pub put-requires : goal.put-requires
put-requires c =
    let n = c.numbers_of-numbers in
    record { room = omega (arith, their_lengths c.args.context.now c.args.sample.now n.result.time n.result.value n.result.made n.ensures.time n.ensures.value n.ensures.made) }

pub write_wide-requires : goal.write_wide-requires
write_wide-requires c =
    let n = c.numbers_of-numbers in
    record { room = omega (arith, their_lengths c.args.context.now c.args.sample.now n.result.time n.result.value n.result.made n.ensures.time n.ensures.value n.ensures.made) }

pub put-requires-2 : goal.put-requires-2
put-requires-2 c =
    let n = c.numbers_of-numbers in
    record { room = omega (arith, their_lengths c.args.context.now c.args.sample.now n.result.time n.result.value n.result.made n.ensures.time n.ensures.value n.ensures.made) }

pub returns-clause-items : goal.returns-clause-items
returns-clause-items c =
    let n = c.numbers_of-numbers in
    c.put-2.ensures.items
    ∙ ap (λ (l : List ℕ). l ++ number n.result.made) (c.write_wide.ensures.items ∙ ap (λ (l : List ℕ). l ++ number n.result.value) c.put.ensures.items)
    ∙ written_on c.args.context.now c.args.sample.now n.result.time n.result.value n.result.made n.ensures.time n.ensures.value n.ensures.made c.args.bytes.now.items
