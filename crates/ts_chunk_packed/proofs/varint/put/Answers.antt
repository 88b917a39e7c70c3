use Rattle.std.proofs.Common.{List, ℕ, ◌++◌, ◌∙◌, ap, sym, arith}
use Rattle.ts_chunk_packed.specs.Numbers.{number-small}
use Rattle.ts_chunk_packed.proofs.varint.put.Goals as goal

pub returns-clause-items : goal.returns-clause-items
returns-clause-items c =
    c.push_reserved-2.ensures.items ∙ ap (λ (l : List ℕ). c.loop-rest.bytes.items ++ l) (sym (number-small c.loop-rest.rest (omega arith))) ∙ c.loop-rest.invariant.items
