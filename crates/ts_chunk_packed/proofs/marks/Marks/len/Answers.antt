use Rattle.std.proofs.Common.{sym, subst, arith}
use Rattle.ts_chunk_packed.specs.Marks.{AreMarks}
use Rattle.ts_chunk_packed.proofs.Spacing.{spaced-few}
use Rattle.ts_chunk_packed.proofs.marks.Marks.len.Goals as goal

pub returns : goal.returns
returns c = λ ps are.
    let ms = c.self.inside.list.items in
    let few = spaced-few ps 0 ms (omega arith) (subst (AreMarks ps) (sym c.self.view_is) are) c.self.invariant.spaced in
    omega (arith, few, c.len.ensures)
