-- The output of a reply over many series: the reply, too many rows, or out of memory.
use Rattle.std.proofs.Common.{◌≡◌, ℕ, Bool, true, false, List, inl, inr, sym, subst}
use Rattle.std.specs.Prelude.{Option, None, Some, is_none, Result, Ok, Err, IfOk}
use Rattle.ts_spec.specs.Answer.{Row}
use Rattle.ts_spec.specs.Queries.{rows_response}
use Rattle.ts_spec.specs.Replies.{reply_to}
use Rattle.ts_spec.specs.Response.{Response}
use Rattle.ts_spec.specs.Text.{text}
use Rattle.ts_questions.specs.Answering.{IsReplyText, IsManyText, lost_reply}

module _ (response : Response) (written : List ℕ) (is_over_limit : Bool) where
  -- it is told
  pub written-told : is_over_limit ≡ false → written ≡ text (reply_to response) → IsManyText is_over_limit response written
  written-told few is = subst (λ (b : Bool). IsManyText b response written) (sym few) (inl is)

  -- it is not
  pub written-lost : (b : Bool) → b ≡ is_over_limit → written ≡ text (lost_reply b) → IsManyText is_over_limit response written
  written-lost b same is = subst (λ (b : Bool). IsManyText b response written) same (go b is)
    where
      go : (b : Bool) → written ≡ text (lost_reply b) → IsManyText b response written
      go true is = is
      go false is = inr is

-- the rows of one series are too many, or there is no memory for them
pub rows-lost : (b : Bool) (rows : Option (List Row)) (written : List ℕ) → b ≡ is_none rows → written ≡ text (lost_reply b) → IsReplyText (rows_response rows) written
rows-lost true None written same is = inl is
rows-lost true (Some rows) written same is = absurd (cc same)
rows-lost false None written same is = absurd (cc same)
rows-lost false (Some rows) written same is = inr (tt, is)

-- two facts of what was answered, and a third that follows
pub both-ok : {X Y : Type 0} (r : Result X Y) (P Q R : X → Type 0) → ((x : X) → P x → Q x → R x) → IfOk r P → IfOk r Q → IfOk r R
both-ok (Ok x) P Q R both p q = both x p q
both-ok (Err fault) P Q R both p q = tt
