use Rattle.std.proofs.Common.{sym, subst}
use Rattle.ts_chunk_packed.specs.Marks.{AreMarks}
use Rattle.ts_chunk_packed.proofs.late_marks.LateMarks.with_reserved.Goals as goal

pub returns : goal.returns
returns c = λ ps. subst (AreMarks ps) (sym c.in_ok-marks.ensures.ok) (c.in_ok-new.ensures ps)
