use Rattle.std.proofs.Common.{List, inl, refl, sym, ◌∙◌, ap, subst}
use Rattle.std.specs.Prelude.{⊤, is_some}
use Rattle.ts_spec.specs.declared.limits.Limits.{Limits}
use Rattle.ts_spec.specs.Answer.{answer}
use Rattle.ts_spec.specs.Keyed.{get}
use Rattle.ts_spec.specs.Queries.{asked, rows_response, range_response}
use Rattle.ts_spec.specs.Sample.{Point}
use Rattle.ts_spec.specs.Text.{text}
use Rattle.ts_range.specs.Query.{query_of}
use Rattle.ts_range.specs.declared.query.Asked.{Asked}
use Rattle.ts_resp.specs.Replies.{reply_of}
use Rattle.ts_db.proofs.Laws.{there-law}
use Rattle.ts_db.specs.declared.fault.DbFault.TheVariants.{NoKey}
use Rattle.ts_questions.specs.Answering.{IsReplyText}
use Rattle.ts_questions.proofs.ReplyTexts.{alone}
use Rattle.ts_questions.proofs.Finding.{asked_stands, finds_none, answer_here}
use Rattle.ts_questions.proofs.Refusals.{no_key_response}
use Rattle.ts_questions.proofs.query_replies.write_range.Goals as goal

pub returns-in-None-clause-reply : goal.returns-in-None-clause-reply
returns-in-None-clause-reply g c = λ from stands.
    let q = query_of c.args.query.now in
    let key = c.args.key.now in
    inl (no_key_response (range_response from.limits from.state key c.args.latest q) (get key from.state) (λ (a : Asked). ⊤) NoKey
    c.args.db.now.ids c.put.new.out.bytes refl refl
    (finds_none (get key from.state) (λ (a : Asked). ⊤)
    (ap is_some (sym c.in-None.is) ∙ there-law c.args.db.now key (is_some c.id_of.result) c.id_of.ensures.there from stands))
    (alone (reply_of c.refusal_reply.result) c.args.out.now.bytes c.put.new.out.bytes c.put.ensures.bytes c.requires.empty
    ∙ ap text (c.refusal_reply.ensures.reply c.args.db.now.ids)))

pub returns-in-Some-clause-reply : goal.returns-in-Some-clause-reply
returns-in-Some-clause-reply g c = λ from stands.
    let q = query_of c.args.query.now in
    let key = c.args.key.now in
    let written = c.write_rows_of.new.out.bytes in
    answer_here from.limits from.state key c.args.latest q (get key from.state) written
    (ap is_some (sym c.in-Some.is) ∙ there-law c.args.db.now key (is_some c.id_of.result) c.id_of.ensures.there from stands)
    (subst (λ (l : Limits). IsReplyText (rows_response (answer l.empty_rows q (asked from.state c.args.latest key))) written)
    (sym stands.limits)
    (subst (λ (ps : List Point). IsReplyText (rows_response (answer c.args.db.now.limits.empty_rows q ps)) written)
    (asked_stands c.args.db.now c.args.latest key from stands)
    (c.write_rows_of.ensures.reply key (sym c.id_of.ensures.id ∙ c.in-Some.is))))

pub returns-in-Some-clause-steps : goal.returns-in-Some-clause-steps
returns-in-Some-clause-steps g c = c.write_rows_of.ensures.steps c.args.key.now (sym c.id_of.ensures.id ∙ c.in-Some.is)
