-- Error replies and array headers are short.
use Rattle.std.proofs.Common.{◌<◌, ◌≤◌, ◌^◌, ℕ, length, arith, length-append}
use Rattle.std.specs.Prelude.{Option, None, Some}
use Rattle.std.specs.Fmt.{decimal}
use Rattle.std.proofs.lemmas.Fmt.{length-decimal-le}
use Rattle.ts_spec.specs.Refusal as refusal
use Rattle.ts_spec.specs.Refusal.{Refusal}
use Rattle.ts_spec.specs.Replies.{memory_reply}
use Rattle.ts_spec.specs.Text.{CRLF, Error, line_text}
use Rattle.ts_questions.specs.Answering.{message_of, IsShort}

-- what stands before an array, with a number of 64 bits, is short
pub short_head : (n : ℕ) → n < 2 ^ 64 → length (line_text 42 (decimal n)) ≤ 64
short_head n within = omega (arith, length-append (decimal n) CRLF, length-decimal-le 20 n (omega arith) (omega arith) within)

short_refusal : (r : Refusal) → IsShort (Error (message_of (Some r)))
short_refusal refusal.NoKey = omega arith
short_refusal refusal.KeyExists = omega arith
short_refusal refusal.KeysFull = omega arith
short_refusal refusal.LabelsFull = omega arith
short_refusal refusal.TooOld = omega arith
short_refusal refusal.Duplicate = omega arith
short_refusal refusal.OutOfRange = omega arith
short_refusal refusal.BeforeLast = omega arith
short_refusal refusal.SamplesFull = omega arith
short_refusal (refusal.DestinationFull key) = omega arith
short_refusal refusal.DeleteBeyondRetention = omega arith
short_refusal refusal.SameKey = omega arith
short_refusal refusal.SourceIsDest = omega arith
short_refusal refusal.DestIsSource = omega arith
short_refusal refusal.DestHasSource = omega arith
short_refusal refusal.RulesSpent = omega arith
short_refusal refusal.RulesFull = omega arith
short_refusal refusal.NoRule = omega arith
short_refusal refusal.EmptyRows = omega arith

pub short_memory : IsShort memory_reply
short_memory = omega arith

pub short_error : (o : Option Refusal) → IsShort (Error (message_of o))
short_error None = short_memory
short_error (Some r) = short_refusal r
