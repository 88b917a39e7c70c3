use Rattle.std.proofs.Common.{◌≤◌, sym, subst, take, arith}
use Rattle.ts_chunk_packed.specs.Marks.{IsMark}
use Rattle.ts_chunk_packed.proofs.Marking.{mark_within}
use Rattle.ts_chunk_packed.proofs.marks.Marks.keep_within.Goals as goal

pub returns-then-count : goal.returns-then-count
returns-then-count c =
    let few : c.args.mark.now.count ≤ c.args.count = omega (arith, c.count.ensures, c.if-count.true) in
    λ ps is within old. c.keep.ensures (take c.args.count ps) old
    (subst (IsMark (take c.args.count ps)) (sym c.copy.ensures) (mark_within ps c.args.mark.now c.args.count few within is))
