use Rattle.std.proofs.Common.{◌≡◌, ◌∙◌, ap, sym, subst}
use Rattle.ts_chunk_packed.specs.Marks.{AreMarks, marks_of}
use Rattle.ts_chunk_packed.proofs.late_marks.LateMarks.set.Goals as goal

pub returns : goal.returns
returns c =
    let was : c.args.self.now ≡ c.deref_mut.result.now = sym c.self.view_is ∙ ap marks_of c.in-Some.is ∙ sym c.deref_mut.ensures.value in
    λ ps state ends old. c.set.ensures ps state ends (subst (AreMarks ps) was old)
