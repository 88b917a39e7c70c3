use Rattle.std.proofs.Common.{◌∙◌, subst}
use Rattle.std.proofs.lemmas.List.{append_cancel_right}
use Rattle.ts_chunk_packed.specs.Marks.{AreMarks}
use Rattle.ts_chunk_packed.specs.Decoder.{IsUndecodedOf}
use Rattle.ts_chunk_packed.proofs.Late.{same_front, if_ok}
use Rattle.ts_chunk_packed.proofs.Starting.{rest_at}
use Rattle.ts_chunk_packed.proofs.chunk.PackedChunk.front.Goals as goal
use Rattle.ts_chunk_packed.proofs.chunk.PackedChunk.front.Goals.{After-pass_before}

-- what is left, past the samples before the time
abbrev of : (c : After-pass_before) → IsUndecodedOf c.args.self.now.list c.pass_before.new.rest
of c = rest_at c.args.time c.args.self.now.list c.known.ensures.ascending c.pass_before.new.rest c.pass_before.ensures.list c.pass_before.ensures.state

pub pass_before-requires-clause-marks : goal.pass_before-requires-clause-marks
pass_before-requires-clause-marks c = λ from. c.in_ok-marks.ensures from.rest

pub all_before-requires-clause-rest : goal.all_before-requires-clause-rest
all_before-requires-clause-rest c = of (goal.at.all_before-requires-clause-rest c).After-pass_before

pub all_before-requires-clause-marks : goal.all_before-requires-clause-marks
all_before-requires-clause-marks c = λ other.
    subst (λ l. AreMarks l c.pass_before.new.marks)
    (same_front c.args.self.now.list c.pass_before.new.rest (of (goal.at.all_before-requires-clause-marks c).After-pass_before) other) c.pass_before.ensures.marks

pub returns-clause-list : goal.returns-clause-list
returns-clause-list c =
    let there = of (goal.at.returns-clause-list c).After-pass_before in
    if_ok c.all_before.result (λ f whole. append_cancel_right f.list there.front c.pass_before.new.rest.list (whole ∙ there.whole)) c.all_before.ensures.whole
