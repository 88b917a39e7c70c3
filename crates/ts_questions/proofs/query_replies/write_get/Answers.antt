use Rattle.std.proofs.Common.{◌≡◌, ◌∙◌, Option, refl, ap}
use Rattle.ts_spec.specs.Keyed.{get}
use Rattle.ts_spec.specs.Queries.{asked, last_response}
use Rattle.ts_spec.specs.Sample.{Point, last_of}
use Rattle.ts_spec.specs.Text.{text}
use Rattle.ts_resp.specs.Replies.{reply_of}
use Rattle.ts_questions.proofs.ReplyTexts.{alone}
use Rattle.ts_questions.proofs.Refusals.{no_key_response}
use Rattle.ts_questions.proofs.query_replies.write_get.Goals as goal

pub returns-in-Err-clause-reply : goal.returns-in-Err-clause-reply
returns-in-Err-clause-reply g c = λ from stands.
    no_key_response (last_response from.state c.args.key.now c.args.latest) (get c.args.key.now from.state)
    (λ (last : Option Point). last ≡ last_of (asked from.state c.args.latest c.args.key.now)) c.in-Err.fault c.args.db.now.ids c.put.new.out.bytes refl c.in-Err.ensures.refused (c.in-Err.ensures.last from stands)
    (alone (reply_of c.refusal_reply.result) c.args.out.now.bytes c.put.new.out.bytes c.put.ensures.bytes c.requires.empty ∙ ap text (c.refusal_reply.ensures.reply c.args.db.now.ids))
