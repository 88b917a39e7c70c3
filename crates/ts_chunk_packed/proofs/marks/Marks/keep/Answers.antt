use Rattle.std.proofs.Common.{◌+◌, ◌≤◌, ap, sym, subst, arith}
use Rattle.ts_chunk_packed.specs.Marks.{AreSpaced, end_of}
use Rattle.ts_chunk_packed.proofs.Spacing.{spaced-push, end-push}
use Rattle.ts_chunk_packed.proofs.marks.Marks.keep.Goals as goal

pub invariant_of-self : goal.invariant_of-self
invariant_of-self c =
    let ms = c.self.inside.list.items in
    let m = c.args.mark in
    let all = c.push_reserved.ensures.items in
    let past : end_of 0 ms + 256 ≤ m.at = omega (arith, c.self.invariant.next, c.at-at.ensures, c.if-at-self.false) in
    record {
      spaced = subst (AreSpaced 0) (sym all) (spaced-push 0 ms m c.self.invariant.spaced past);
      next = omega (arith, ap (end_of 0) all, end-push 0 ms m, c.at-at.ensures, c.in-Some.ensures);
    }
