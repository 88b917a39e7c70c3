-- The text of replies and of errors.
use Rattle.std.specs.Prelude.{◌≡◌, ◌⊎◌, ◌≤◌, ℕ, Bool, true, false, length, List, Option, None, Some}
use Rattle.ts_spec.specs.Messages.{refusal_message, memory_message}
use Rattle.ts_spec.specs.Refusal.{Refusal, EmptyRows}
use Rattle.ts_spec.specs.Replies.{reply_to, memory_reply, refusal_reply}
use Rattle.ts_spec.specs.Response.{Response}
use Rattle.ts_spec.specs.Text.{Reply, text}
use Rattle.ts_db.specs.DbState.{AllowsOutOfMemory}

-- the message of a rejection, or of running out of memory
abbrev pub message_of : Option Refusal → List ℕ
message_of None = memory_message
message_of (Some refusal) = refusal_message refusal

-- the output is the text of the response, or the out-of-memory error if that is allowed
abbrev pub IsTextOrLost : (may : Type 0) → Response → List ℕ → Type 0
IsTextOrLost may response written = (written ≡ text (reply_to response)) ⊎ (may × (written ≡ text memory_reply))

-- the out-of-memory error is allowed unless the command would fail anyway
abbrev pub IsReplyText : Response → List ℕ → Type 0
IsReplyText response written = IsTextOrLost (AllowsOutOfMemory response) response written

-- the error for rows that can't be returned: too many, or out of memory
abbrev pub lost_reply : (are_too_many : Bool) → Reply
lost_reply true = refusal_reply EmptyRows
lost_reply false = memory_reply

-- the output is the too-many-rows error if a series has too many rows; else it is the text of the response, or the
-- out-of-memory error
abbrev pub IsManyText : (is_over_limit : Bool) → Response → List ℕ → Type 0
IsManyText true response written = written ≡ text (lost_reply true)
IsManyText false response written = (written ≡ text (reply_to response)) ⊎ (written ≡ text (lost_reply false))

-- the text of the reply has at most 64 bytes, which holds for 64-bit integers and all errors
abbrev pub IsShort : Reply → Type 0
IsShort reply = length (text reply) ≤ 64
