use Rattle.std.proofs.Common.{ℕ, List, [], ◌∷◌, map, ◌∙◌, ap}
use Rattle.ts_resp.specs.Replies.{reply_of}
use Rattle.ts_resp.specs.declared.reply.Reply.{Reply}
use Rattle.ts_spec.specs.Replies as spec
use Rattle.ts_spec.specs.Text.{Simple}
use Rattle.ts_execution.proofs.info.info_reply.Goals as goal

pub returns : goal.returns
returns c =
    c.array.ensures ∙ ap (λ (replies : List Reply). spec.array (map reply_of replies)) c.in_ok-values.ensures.items
    ∙ (λ i. spec.array (
    c.simple.ensures i
    ∷ c.number.ensures i
    ∷ c.simple-2.ensures i
    ∷ c.number-2.ensures i
    ∷ c.simple-3.ensures i
    ∷ c.number-3.ensures i
    ∷ c.simple-4.ensures i
    ∷ c.number-4.ensures i
    ∷ c.simple-5.ensures i
    ∷ c.number-5.ensures i
    ∷ c.simple-6.ensures i
    ∷ (c.simple-7.ensures ∙ ap (λ (l : List ℕ). Simple l) c.encoding_name.ensures) i
    ∷ c.simple-8.ensures i
    ∷ (c.simple-9.ensures ∙ ap (λ (l : List ℕ). Simple l) c.policy_name.ensures) i
    ∷ c.simple-10.ensures i
    ∷ c.in_ok-labels.ensures i
    ∷ c.simple-11.ensures i
    ∷ c.word_or_nil.ensures i
    ∷ c.simple-12.ensures i
    ∷ c.in_ok-rules.ensures i
    ∷ c.simple-13.ensures i
    ∷ c.number-6.ensures i
    ∷ c.simple-14.ensures i
    ∷ c.value.ensures i
    ∷ []))
