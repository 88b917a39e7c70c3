use Rattle.std.proofs.Common.{◌∙◌, arith}
use Rattle.ts_resp.proofs.PartLemmas.{part_of_front}
use Rattle.ts_resp.proofs.word.Word.short_part.Goals as goal

pub returns : goal.returns
returns c =
    c.filled.ensures
    ∙ part_of_front c.args.bytes.now c.in-Some.room.now c.args.start c.args.end 30 (omega arith) (omega arith) (omega arith) c.in-Some.ensures.cases.same
