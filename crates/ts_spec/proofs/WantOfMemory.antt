-- No other reply has the text of the out-of-memory error.
use Rattle.std.proofs.Common.{◌≡◌, ◌≢◌, ℕ, List, [], ◌∷◌, Option, Some, None, refl, sym, ap, ◌∙◌}
use Rattle.std.proofs.lemmas.Bool.{eqb-false}
use Rattle.ts_spec.specs.declared.units.ValueFault.TheVariants as value
use Rattle.ts_spec.specs.declared.wire.Kind.{Kind}
use Rattle.ts_spec.specs.declared.wire.Kind.TheVariants as kind
use Rattle.ts_spec.specs.Refusal.{Fault, UnknownCommand, Arity, BadTimestamp, BadValue, BadOption, RepeatedOption, BadLabels, BadChunkSize, BadPolicy, BadEncoding, UnknownAggregator, AggregatorNotInProfile, BadDuration, BadFilter, NoPositiveFilter, Refusal, NoKey, KeyExists, KeysFull, LabelsFull, TooOld, Duplicate, OutOfRange, BeforeLast, SamplesFull, DestinationFull, DeleteBeyondRetention, SameKey, SourceIsDest, DestIsSource, DestHasSource, RulesSpent, RulesFull, NoRule, EmptyRows}
use Rattle.ts_spec.specs.Response as response
use Rattle.ts_spec.specs.Response.{Item, Wrote, IsWrong, IsRefused, Response}
use Rattle.ts_spec.specs.Answer.{Row}
use Rattle.ts_spec.specs.Text.{Reply, Error, text, protocol_message, protocol_error_text}
use Rattle.ts_spec.specs.Replies.{fault_reply, refusal_reply, memory_reply, item_reply, last_row_reply, reply_to}

-- the first byte of a text, and the second
abbrev first : List ℕ → ℕ
first [] = 0
first (byte ∷ bytes) = byte

abbrev second : List ℕ → ℕ
second [] = 0
second (byte ∷ bytes) = first bytes

-- the out-of-memory error does not have `E` after its sign
not-error : (a : Reply) → second (text a) ≡ 69 → text a ≢ text memory_reply
not-error a h e = eqb-false 69 79 refl (sym h ∙ ap second e)

-- and with the sign of errors
not-sign : (a : Reply) (sign : ℕ) → first (text a) ≡ sign → sign ≢ 45 → text a ≢ text memory_reply
not-sign a sign h other e = other (sym h ∙ ap first e)

fault-begins : (fault : Fault) → second (text (fault_reply fault)) ≡ 69
fault-begins UnknownCommand = refl
fault-begins Arity = refl
fault-begins BadTimestamp = refl
fault-begins (BadValue value.NotANumber) = refl
fault-begins (BadValue value.OutOfRange) = refl
fault-begins BadOption = refl
fault-begins RepeatedOption = refl
fault-begins BadLabels = refl
fault-begins BadChunkSize = refl
fault-begins BadPolicy = refl
fault-begins BadEncoding = refl
fault-begins UnknownAggregator = refl
fault-begins AggregatorNotInProfile = refl
fault-begins BadDuration = refl
fault-begins BadFilter = refl
fault-begins NoPositiveFilter = refl

refusal-begins : (refusal : Refusal) → second (text (refusal_reply refusal)) ≡ 69
refusal-begins NoKey = refl
refusal-begins KeyExists = refl
refusal-begins KeysFull = refl
refusal-begins LabelsFull = refl
refusal-begins TooOld = refl
refusal-begins Duplicate = refl
refusal-begins OutOfRange = refl
refusal-begins BeforeLast = refl
refusal-begins SamplesFull = refl
refusal-begins (DestinationFull key) = refl
refusal-begins DeleteBeyondRetention = refl
refusal-begins SameKey = refl
refusal-begins SourceIsDest = refl
refusal-begins DestIsSource = refl
refusal-begins DestHasSource = refl
refusal-begins RulesSpent = refl
refusal-begins RulesFull = refl
refusal-begins NoRule = refl
refusal-begins EmptyRows = refl

pub fault-not-memory : (fault : Fault) → text (fault_reply fault) ≢ text memory_reply
fault-not-memory fault = not-error (fault_reply fault) (fault-begins fault)

kind-begins : (k : Kind) → second (protocol_error_text k) ≡ 69
kind-begins kind.Multibulk = refl
kind-begins kind.Bulk = refl
kind-begins kind.Dollar = refl
kind-begins kind.Crlf = refl
kind-begins kind.TooLarge = refl

-- of bytes that are no requests
pub kind-not-memory : (k : Kind) → protocol_error_text k ≢ text memory_reply
kind-not-memory k = not-error (Error (protocol_message k)) (kind-begins k)

refusal-not-memory : (refusal : Refusal) → text (refusal_reply refusal) ≢ text memory_reply
refusal-not-memory refusal = not-error (refusal_reply refusal) (refusal-begins refusal)

last-not-memory : (row : Option Row) → text (last_row_reply row) ≢ text memory_reply
last-not-memory None = not-sign (last_row_reply None) 42 refl (eqb-false 42 45 refl)
last-not-memory (Some row) = not-sign (last_row_reply (Some row)) 42 refl (eqb-false 42 45 refl)

-- the reply to a triple of TS.MADD
pub item-not-memory : (item : Item) → text (item_reply item) ≢ text memory_reply
item-not-memory (Wrote time) = not-sign (item_reply (Wrote time)) 58 refl (eqb-false 58 45 refl)
item-not-memory (IsWrong fault) = fault-not-memory fault
item-not-memory (IsRefused refusal) = refusal-not-memory refusal

-- No response has the text of the out-of-memory error.
pub reply-not-memory : (r : Response) → text (reply_to r) ≢ text memory_reply
reply-not-memory response.Done = not-sign (reply_to response.Done) 43 refl (eqb-false 43 45 refl)
reply-not-memory (response.Count n) = not-sign (reply_to (response.Count n)) 58 refl (eqb-false 58 45 refl)
reply-not-memory (response.Refused refusal) = refusal-not-memory refusal
reply-not-memory (response.LastRow row) = last-not-memory row
reply-not-memory (response.Items items) = not-sign (reply_to (response.Items items)) 42 refl (eqb-false 42 45 refl)
reply-not-memory (response.Rows rows) = not-sign (reply_to (response.Rows rows)) 42 refl (eqb-false 42 45 refl)
reply-not-memory (response.Members members) = not-sign (reply_to (response.Members members)) 42 refl (eqb-false 42 45 refl)
reply-not-memory (response.LastRows members) = not-sign (reply_to (response.LastRows members)) 42 refl (eqb-false 42 45 refl)
reply-not-memory (response.Keys keys) = not-sign (reply_to (response.Keys keys)) 42 refl (eqb-false 42 45 refl)
reply-not-memory (response.KeyInfo info) = not-sign (reply_to (response.KeyInfo info)) 42 refl (eqb-false 42 45 refl)
reply-not-memory response.Pong = not-sign (reply_to response.Pong) 43 refl (eqb-false 43 45 refl)
reply-not-memory (response.Word word) = not-sign (reply_to (response.Word word)) 36 refl (eqb-false 36 45 refl)
