use Rattle.std.proofs.Common.{take, subst}
use Rattle.ts_chunk_packed.specs.Marks.{AreMarks}
use Rattle.ts_chunk_packed.proofs.Late.{front_within, front_taken}
use Rattle.ts_chunk_packed.proofs.Starting.{marks_are}
use Rattle.ts_chunk_packed.proofs.chunk.PackedChunk.marks_before.Goals as goal

pub returns : goal.returns
returns c = λ of.
    let f = c.self.inside in
    let now = c.args.self.now in
    let place = c.place_of-place.result in
    let samples = (c.place_of-place.ensures of).samples in
    subst (λ l. AreMarks l c.keep_first.new.self) (front_taken now.list c.args.rest.now of place.count samples)
    (c.keep_first.ensures now.list (marks_are c.self.invariant c.self.view_is)
    (front_within now.list c.args.rest.now of place.count samples) (c.in_ok-marks.ensures (take place.count now.list)))
