use Rattle.std.proofs.Common.{◌∙◌, refl}
use Rattle.ts_chunk_packed.proofs.Late.{further, marks_further, end_list, end_state, end_marks}
use Rattle.ts_chunk_packed.proofs.chunk.PackedChunk.pass_before.Goals as goal

pub loop-rest-init : goal.loop-rest-init
loop-rest-init c = record { from = c.requires.rest; marks = c.requires.marks c.requires.rest }

pub place_of-place-requires : goal.place_of-place-requires
place_of-place-requires c =
    (further c.args.time c.args.self.now.list c.loop-rest.rest c.pass.new.self (c.loop-rest-test.ensures.one refl) c.loop-rest.invariant.from).rest

pub loop-rest-preserved : goal.loop-rest-preserved
loop-rest-preserved c =
    let passed = c.loop-rest-test.ensures.one refl in
    let was = c.loop-rest.invariant in
    let from = further c.args.time c.args.self.now.list c.loop-rest.rest c.pass.new.self passed was.from in
    record {
      from = from;
      marks = c.set.ensures from.rest.front (c.context.ensures ∙ from.rest.state) (c.place_of-place.ensures from.rest) (marks_further c.args.time c.args.self.now.list c.loop-rest.rest c.pass.new.self passed was.from c.loop-rest.marks was.marks);
    }

pub returns-clause-list : goal.returns-clause-list
returns-clause-list c =
    end_list c.args.time c.args.self.now.list c.loop-rest.rest c.pass.new.self c.loop-rest.invariant.from c.pass.ensures.list (c.loop-rest-test.ensures.all refl)

pub returns-clause-state : goal.returns-clause-state
returns-clause-state c =
    end_state c.args.time c.args.self.now.list c.loop-rest.rest c.pass.new.self c.loop-rest.invariant.from c.pass.ensures.state (c.loop-rest-test.ensures.none refl)

pub returns-clause-marks : goal.returns-clause-marks
returns-clause-marks c =
    end_marks c.args.time c.args.self.now.list c.loop-rest.rest c.pass.new.self c.loop-rest.invariant.from c.loop-rest.marks c.loop-rest.invariant.marks
