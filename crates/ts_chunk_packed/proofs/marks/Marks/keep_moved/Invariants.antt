use Rattle.std.proofs.Common.{◌≡◌, List, ◌++◌}
use Rattle.ts_spec.specs.Sample.{Point}
use Rattle.ts_chunk_packed.specs.Marks.{AreMarks, EndsAt}
use Rattle.ts_chunk_packed.specs.Packed.{begin, state_from}
use Rattle.ts_chunk_packed.proofs.marks.Marks.keep_moved.Given as goal

abbrev pub invariant-loop-index : goal.invariant-loop-index
invariant-loop-index l =
    (ps qs rest : List Point) → EndsAt ps l.from.at l.from.count → EndsAt qs l.to.at l.to.count → state_from begin ps ≡ state_from begin qs → AreMarks (ps ++ rest) l.others
    → AreMarks (qs ++ rest) l.initial.self → AreMarks (qs ++ rest) l.self
