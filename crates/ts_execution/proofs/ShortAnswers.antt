-- Every reply to a command on one series, and every item of TS.MADD, is short.
use Rattle.std.proofs.Common.{◌≡◌, ◌<◌, ◌≤◌, ◌^◌, ◌+◌, ◌++◌, ℕ, Bool, true, false, List, refl, sym, subst, length, arith, length-append}
use Rattle.std.specs.Prelude.{nat_lt, IsTrue, Result, Ok, Err, IfOk}
use Rattle.std.specs.Fmt.{decimal}
use Rattle.std.proofs.lemmas.Fmt.{length-decimal-le}
use Rattle.ts_spec.specs.Refusal as refusal
use Rattle.ts_spec.specs.Refusal.{Fault}
use Rattle.ts_spec.specs.declared.units.ValueFault.TheVariants as value
use Rattle.ts_spec.specs.Replies.{number, fault_reply}
use Rattle.ts_spec.specs.Sample.{MAX_TIME}
use Rattle.ts_spec.specs.Text.{CRLF, Bulk, line_text, text}
use Rattle.ts_sample.specs.declared.sample.Id.{Id}
use Rattle.ts_spec.specs.Keyed.{Keyed}
use Rattle.ts_db.specs.Faults.{refusal_of}
use Rattle.ts_db.specs.declared.fault.DbFault.{DbFault}
use Rattle.std.proofs.lemmas.Bool.Decides.{nat_tests}
use Rattle.ts_questions.proofs.Short.{short_error}
use Rattle.ts_questions.specs.Answering.{IsShort}
use Rattle.ts_execution.specs.Handling.{is_long}
use Rattle.ts_execution.specs.Answers.{reply_of_done, reply_of_number}

-- a number of 64 bits has at most 20 digits
pub short_number : (n : ℕ) → n < 2 ^ 64 → IsShort (number n)
short_number n within = omega (arith, length-append (decimal n) CRLF, length-decimal-le 20 n (omega arith) (omega arith) within)

bulk-length : (digits word : List ℕ) → length (line_text 36 digits ++ word ++ CRLF) ≡ length digits + length word + 5
bulk-length digits word = omega (arith, length-append (digits ++ CRLF ++ word) CRLF, length-append (digits ++ CRLF) word, length-append digits CRLF)

-- an argument that is sent back has at most 30 bytes, or may not fit the buffer
pub long_word : (word : List ℕ) → 128 < length (text (Bulk word)) → IsTrue (is_long word)
long_word word much = go (nat_lt 30 (length word)) refl
  where
    few : length word ≤ 30 → length (text (Bulk word)) ≤ 128
    few le =
        subst (λ (n : ℕ). n ≤ 128) (sym (bulk-length (decimal (length word)) word))
        (omega (arith, le, length-decimal-le 20 (length word) (omega arith) (omega arith) (omega (arith, le))))

    go : (b : Bool) → nat_lt 30 (length word) ≡ b → nat_lt 30 (length word) ≡ true
    go true is = is
    go false is = absurd (omega (arith, much, few (grind (arith, nat_tests, is))))

pub short_fault : (fault : Fault) → IsShort (fault_reply fault)
short_fault refusal.UnknownCommand = omega arith
short_fault refusal.Arity = omega arith
short_fault refusal.BadTimestamp = omega arith
short_fault (refusal.BadValue value.NotANumber) = omega arith
short_fault (refusal.BadValue value.OutOfRange) = omega arith
short_fault refusal.BadOption = omega arith
short_fault refusal.RepeatedOption = omega arith
short_fault refusal.BadLabels = omega arith
short_fault refusal.BadChunkSize = omega arith
short_fault refusal.BadPolicy = omega arith
short_fault refusal.BadEncoding = omega arith
short_fault refusal.UnknownAggregator = omega arith
short_fault refusal.AggregatorNotInProfile = omega arith
short_fault refusal.BadDuration = omega arith
short_fault refusal.BadFilter = omega arith
short_fault refusal.NoPositiveFilter = omega arith

-- the results of the database, for any keys of the series ids
pub short_done : (ids : Keyed Id) (outcome : Result (Unit {0}) DbFault) → IsShort (reply_of_done ids outcome)
short_done ids (Ok x) = omega arith
short_done ids (Err fault) = short_error (refusal_of ids fault)

pub short_number_reply : (ids : Keyed Id) (outcome : Result ℕ DbFault) → IfOk outcome (λ t. t ≤ MAX_TIME) → IsShort (reply_of_number ids outcome)
short_number_reply ids (Ok time) bounded = short_number time (omega (arith, bounded))
short_number_reply ids (Err fault) bounded = short_error (refusal_of ids fault)
