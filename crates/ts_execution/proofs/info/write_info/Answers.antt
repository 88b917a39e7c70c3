use Rattle.std.proofs.Common.{◌≡◌, ◌<◌, length, ◌∙◌, refl, ap, subst, inl, inr, ⊎_elim}
use Rattle.ts_spec.specs.Keyed.{get}
use Rattle.ts_spec.specs.Queries.{info_response}
use Rattle.ts_spec.specs.Replies.{reply_to, memory_reply}
use Rattle.ts_spec.specs.Response.{Response, KeyInfo}
use Rattle.ts_spec.specs.Text.{text}
use Rattle.ts_db.specs.DbState.{AllowsOutOfMemory}
use Rattle.ts_db.specs.Information.{info_of}
use Rattle.ts_db.specs.declared.info.Info.{Info}
use Rattle.ts_resp.specs.Replies.{reply_of}
use Rattle.ts_questions.proofs.ReplyTexts.{alone}
use Rattle.ts_questions.proofs.Finding.{found}
use Rattle.ts_questions.proofs.Refusals.{missing_key_response}
use Rattle.ts_execution.proofs.info.write_info.Goals as goal

pub returns-in-Ok-info_reply-clause-reply : goal.returns-in-Ok-info_reply-clause-reply
returns-in-Ok-info_reply-clause-reply g c = λ from stands.
    let o = get c.args.key.now from.state in
    let what = found o (λ (info : Info). KeyInfo (info_of info) ≡ info_response from.state c.args.key.now o) c.in-Ok.info (c.in-Ok.ensures.info from stands) in
    ⊎_elim (λ (is : c.write_or_out_of_memory.new.out.bytes ≡ text (reply_of c.in-Ok-info_reply.reply)). inl (is ∙ ap text c.in-Ok-info_reply.ensures ∙ ap (λ (r : Response). text (reply_to r)) what))
    (λ (lost : (c.args.out.now.spare < length (text (reply_of c.in-Ok-info_reply.reply))) × (c.write_or_out_of_memory.new.out.bytes ≡ text memory_reply)). inr (subst AllowsOutOfMemory what tt, lost.1)) c.write_or_out_of_memory.ensures.bytes

pub returns-in-Err-clause-reply : goal.returns-in-Err-clause-reply
returns-in-Err-clause-reply g c = λ from stands.
    missing_key_response (info_response from.state c.args.key.now) (get c.args.key.now from.state)
    (λ (info : Info). KeyInfo (info_of info) ≡ info_response from.state c.args.key.now (get c.args.key.now from.state)) c.in-Err.fault c.args.db.now.ids c.put.new.out.bytes refl (λ d. tt) (c.in-Err.ensures.info from stands)
    (alone (reply_of c.refusal_reply.result) c.args.out.now.bytes c.put.new.out.bytes c.put.ensures.bytes c.requires.empty ∙ ap text (c.refusal_reply.ensures.reply c.args.db.now.ids))

pub returns-in-Err-info_reply-clause-reply : goal.returns-in-Err-info_reply-clause-reply
returns-in-Err-info_reply-clause-reply g c = λ from stands.
    let o = get c.args.key.now from.state in
    let what = found o (λ (info : Info). KeyInfo (info_of info) ≡ info_response from.state c.args.key.now o) c.in-Ok.info (c.in-Ok.ensures.info from stands) in
    inr (subst AllowsOutOfMemory what tt, c.write_out_of_memory.ensures.bytes)
