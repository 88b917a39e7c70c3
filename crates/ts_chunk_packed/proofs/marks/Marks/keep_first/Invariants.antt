use Rattle.std.proofs.Common.{◌≤◌, List, length, take}
use Rattle.ts_spec.specs.Sample.{Point}
use Rattle.ts_chunk_packed.specs.Marks.{AreMarks}
use Rattle.ts_chunk_packed.proofs.marks.Marks.keep_first.Given as goal

abbrev pub invariant-loop-index : goal.invariant-loop-index
invariant-loop-index l = (ps : List Point) → AreMarks ps l.others → l.count ≤ length ps → AreMarks (take l.count ps) l.initial.self → AreMarks (take l.count ps) l.self
