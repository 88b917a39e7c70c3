use Rattle.std.proofs.Common.{◌∙◌, refl, sym, subst}
use Rattle.ts_chunk_packed.specs.Marks.{AreMarks}
use Rattle.ts_chunk_packed.specs.Decoder.{IsUndecodedOf}
use Rattle.ts_chunk_packed.proofs.Late.{one_further, marks_one}
use Rattle.ts_chunk_packed.proofs.chunk.PackedChunk.pass_next.Goals as goal

pub returns-then-not-pass-clause-marks : goal.returns-then-not-pass-clause-marks
returns-then-not-pass-clause-marks c =
    subst (λ left. (of : IsUndecodedOf c.args.self.now.list left) → AreMarks of.front c.args.marks.now) (sym (c.if-not-pass.ensures.stays refl)) c.requires.marks

pub place_of-place-requires : goal.place_of-place-requires
place_of-place-requires c = one_further c.args.self.now.list c.args.rest.now c.pass.new.self (c.if-not-pass.ensures.one refl) c.requires.rest

pub returns-clause-rest : goal.returns-clause-rest
returns-clause-rest c = one_further c.args.self.now.list c.args.rest.now c.pass.new.self (c.if-not-pass.ensures.one refl) c.requires.rest

pub returns-clause-marks : goal.returns-clause-marks
returns-clause-marks c = λ of.
    c.set.ensures of.front (c.context.ensures ∙ of.state) (c.place_of-place.ensures of)
    (marks_one c.args.self.now.list c.args.rest.now c.pass.new.self (c.if-not-pass.ensures.one refl) c.requires.rest c.args.marks.now (c.requires.marks c.requires.rest) of)
