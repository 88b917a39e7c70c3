use Rattle.std.proofs.Common.{◌≡◌, ◌∙◌, ap, sym, subst, take}
use Rattle.ts_chunk_packed.specs.Marks.{AreMarks, marks_of}
use Rattle.ts_chunk_packed.proofs.late_marks.LateMarks.keep_first.Goals as goal

pub returns : goal.returns
returns c =
    let was : c.args.self.now ≡ c.deref_mut.result.now = sym c.self.view_is ∙ ap marks_of c.in-Some-marks.is ∙ sym c.deref_mut.ensures.value in
    let others : c.args.others.now ≡ c.deref.result.now = sym c.others.view_is ∙ ap marks_of c.in-Some.is ∙ sym c.deref.ensures in
    λ ps are within old. c.keep_first.ensures ps (subst (AreMarks ps) others are) within (subst (AreMarks (take c.args.count ps)) was old)
