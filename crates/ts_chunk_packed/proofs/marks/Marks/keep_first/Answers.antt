use Rattle.std.proofs.Common.{sym, subst, length, ◌≡◌, ◌<◌, rules, arith}
use Rattle.std.specs.Prelude.{vec_len}
use Rattle.ts_chunk_packed.specs.Marks.{IsMark, AreMarks}
use Rattle.ts_chunk_packed.proofs.marks.Marks.keep_first.Goals as goal

pub loop-index-preserved : goal.loop-index-preserved
loop-index-preserved c =
    let len : vec_len c.others.inside.list ≡ length c.others.inside.list.items = search rules in
    let inside : c.loop-index.index < length c.others.inside.list.items = omega (arith, len, c.loop-index-test.true, c.loop-index.auto.index-end, c.len-index-end.ensures) in
    λ ps are within old. c.keep_within.ensures ps (subst (IsMark ps) (sym c.index.ensures) (subst (AreMarks ps) (sym c.others.view_is) are c.loop-index.index _ inside)) within (c.loop-index.invariant ps are within old)
