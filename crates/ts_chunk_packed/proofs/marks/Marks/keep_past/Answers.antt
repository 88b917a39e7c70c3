use Rattle.std.proofs.Common.{◌++◌}
use Rattle.ts_chunk_packed.proofs.Marking.{mark_moved}
use Rattle.ts_chunk_packed.proofs.marks.Marks.keep_past.Goals as goal

pub returns-in-Some : goal.returns-in-Some
returns-in-Some c =
    λ ps qs rest old new same is are. c.keep.ensures (qs ++ rest) are
    (mark_moved ps qs rest c.args.from.at c.args.from.count c.args.to.at c.args.to.count old new same c.args.mark.now c.in-Some.moved is c.in-Some.ensures.past c.in-Some.ensures.state c.in-Some.ensures.at c.in-Some.ensures.count)
