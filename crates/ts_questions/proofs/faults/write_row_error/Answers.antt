use Rattle.std.proofs.Common.{Bool, sym, ap, ◌∙◌}
use Rattle.ts_resp.specs.Replies.{reply_of}
use Rattle.ts_spec.specs.Text.{text}
use Rattle.ts_questions.specs.Answering.{lost_reply}
use Rattle.ts_questions.proofs.ReplyTexts.{alone}
use Rattle.ts_questions.proofs.faults.write_row_error.Goals as goal

pub returns-then-are_too_many-clause-bytes : goal.returns-then-are_too_many-clause-bytes
returns-then-are_too_many-clause-bytes c =
    alone (reply_of c.too_many_rows.result) c.clear.new.self.bytes c.put.new.out.bytes c.put.ensures.bytes c.clear.ensures.empty
    ∙ ap text c.too_many_rows.ensures ∙ ap (λ (b : Bool). text (lost_reply b)) (sym c.if-are_too_many.true)

pub returns-clause-bytes : goal.returns-clause-bytes
returns-clause-bytes c = c.write_out_of_memory.ensures.bytes ∙ ap (λ (b : Bool). text (lost_reply b)) (sym c.if-are_too_many.false)
