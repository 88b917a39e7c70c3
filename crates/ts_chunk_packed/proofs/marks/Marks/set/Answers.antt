use Rattle.std.proofs.Common.{◌∙◌}
use Rattle.ts_chunk_packed.proofs.Marking.{mark_at_end}
use Rattle.ts_chunk_packed.proofs.marks.Marks.set.Goals as goal

pub returns-in-Some : goal.returns-in-Some
returns-in-Some c =
    λ ps state ends old. c.keep.ensures ps old
    (mark_at_end ps c.in-Some.mark (c.in-Some.ensures.state ∙ state) (record { bytes = c.in-Some.ensures.at ∙ ends.bytes; samples = c.in-Some.ensures.count ∙ ends.samples }))
