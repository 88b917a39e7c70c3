use Rattle.std.proofs.Common.{◌≡◌, ◌<◌, ◌∙◌, ap, inl, inr, ⊎_elim, length, arith}
use Rattle.ts_spec.specs.Replies.{memory_reply}
use Rattle.ts_spec.specs.Text.{text}
use Rattle.ts_resp.specs.Replies.{reply_of}
use Rattle.ts_execution.proofs.ShortAnswers.{long_word}
use Rattle.ts_execution.proofs.redis_commands.write_word.Goals as goal

pub returns-clause-reply : goal.returns-clause-reply
returns-clause-reply c =
    ⊎_elim (λ (is : c.write_or_out_of_memory.new.out.bytes ≡ text (reply_of c.sent_back.result)). inl (is ∙ ap text c.sent_back.ensures))
    (λ (lost : (c.args.out.now.spare < length (text (reply_of c.sent_back.result))) × (c.write_or_out_of_memory.new.out.bytes ≡ text memory_reply)).
    inr (long_word c.args.word (omega (arith, lost.0, c.requires.room, ap (λ r. length (text r)) c.sent_back.ensures)), lost.1)) c.write_or_out_of_memory.ensures.bytes
