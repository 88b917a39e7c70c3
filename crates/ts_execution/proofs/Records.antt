-- What is appended to a journal is the record of what was done.
use Rattle.std.specs.Prelude.{Option, None, Some, if◌then◌else◌, Result, Ok, Err}
use Rattle.std.proofs.Common.{◌≡◌, ◌⊎◌, inl, inr, ⊎_elim, ℕ, Bool, true, false, List, [], ◌∷◌, map, refl, sym, ◌∙◌, ap, subst}
use Rattle.std.proofs.lemmas.Bool.{false≢true}
use Rattle.ts_command.specs.declared.fault.CommandFault.{CommandFault}
use Rattle.ts_command.specs.Answers.{IsFaultIn}
use Rattle.ts_command.specs.Faults.{message}
use Rattle.ts_spec.specs.declared.limits.Limits.{Limits}
use Rattle.ts_spec.specs.Command.{Triple, Command, Create, Alter, Add, Madd, Incr, DelRange, CreateRule, DeleteRule, Range, MRange, Get, MGet, QueryIndex, InfoOf, Ping, Echo, Quit, Drop, Exists}
use Rattle.ts_spec.specs.Grammar.{command, needs_clock}
use Rattle.ts_spec.specs.Refusal.{Fault}
use Rattle.ts_spec.specs.Replies.{reply_list, item_reply, memory_reply}
use Rattle.ts_spec.specs.Response.{Item as Answer, Wrote, IsWrong, IsRefused as Refuses, Refused}
use Rattle.ts_spec.specs.State.{State}
use Rattle.ts_spec.specs.Step.{step}
use Rattle.ts_spec.specs.Text.{Reply, Simple, Error, Int, Value, Bulk, Nil, Array, Replies, Empty, Item, text}
use Rattle.ts_spec.specs.Wire.{Request}
use Rattle.ts_spec.proofs.PlainReplies.{fault-plain, memory-plain, reply-lines}
use Rattle.ts_db.specs.DbState.{DbState, DbView, Simulates}
use Rattle.ts_journal.specs.Fixed.{is_fixed}
use Rattle.ts_journal.specs.Content.{bytes_after}
use Rattle.ts_journal.specs.Record.{is_change, is_error, items_of, record_of, AreMaddItems}
use Rattle.ts_journal.specs.declared.record.Record.{Record}
use Rattle.ts_execution.specs.Journaling.{IsUnrecorded, IsRecorded, RecordedBy, Recorded}
use Rattle.ts_execution.specs.Recording.{record_bytes, HasRecord}
use Rattle.ts_execution.specs.Handling.{IsStep, HaveItems, IsAnswered, RunsOutOfMemory, IsReading, readings_after_use, IsRefused, IsOutOfMemoryReading, Executes}
use Rattle.ts_execution.proofs.Carried.{carries_none, carries_as}
use Rattle.ts_execution.proofs.Faulted.{refused_or_unread}
use Rattle.ts_execution.proofs.NoItems.{no-items}

-- ---- the items of a reply

abbrev IsTold : Reply → Type 0
IsTold reply = AreMaddItems (Item reply Empty)

told-both : (reply : Reply) (others : Replies) → IsTold reply → AreMaddItems others → AreMaddItems (Item reply others)
told-both (Int n) others one more = more
told-both (Error words) others one more = (one.0, more)
told-both (Simple words) others one more = absurd one
told-both (Value cell) others one more = absurd one
told-both (Bulk bytes) others one more = absurd one
told-both Nil others one more = absurd one
told-both (Array items) others one more = absurd one

told-answer : (answer : Answer) → IsTold (item_reply answer)
told-answer (Wrote time) = tt
told-answer (IsWrong fault) = (fault-plain fault, tt)
told-answer (Refuses refusal) = (reply-lines (Refused refusal), tt)

told-reply_list : (answers : List Answer) (reply : Reply) → map item_reply answers ≡ reply ∷ [] → IsTold reply
told-reply_list [] reply is = (cc)
told-reply_list (answer ∷ answers) reply is = subst IsTold (cc) (told-answer answer)

told-items : (limits : Limits) (reading : ℕ) (triples : List Triple) (old new : State) (items : List Reply) → HaveItems limits reading triples old items new → AreMaddItems (reply_list items)
told-items limits reading [] old new items have = subst (λ (l : List Reply). AreMaddItems (reply_list l)) (sym have.0) tt
told-items limits reading (triple ∷ triples) old new items have =
    subst (λ (l : List Reply). AreMaddItems (reply_list l)) (sym have.split)
    (told-both have.first (reply_list have.others)
    (⊎_elim (λ is. told-reply_list _ have.first is.reply) (λ lost. subst IsTold (sym lost.reply) (memory-plain, tt)) have.here)
    (told-items limits reading triples have.mid new have.others have.after))

told-by_step : (c : Command) (reading : ℕ) (old new : DbState) (reply : Reply) → IsStep (step old.limits old.state reading c) old reply new
    → is_fixed c ≡ true → AreMaddItems (items_of reply)
told-by_step c reading old new reply is fixed =
    subst AreMaddItems (sym (ap items_of is.says ∙ no-items old.limits old.state reading c fixed)) tt

-- each item in the response of a change is a number or an error
told-change : (c : Command) (reading : ℕ) (old new : DbState) (reply : Reply) → is_change c ≡ true → IsAnswered reading c old reply new → AreMaddItems (items_of reply)
told-change (Madd triples) reading old new reply h is = subst (λ (r : Reply). AreMaddItems (items_of r)) (sym is.says) (told-items old.limits reading triples old.state new.state is.items is.each)
told-change (Create key s) reading old new reply h is = told-by_step (Create key s) reading old new reply is refl
told-change (Alter key d) reading old new reply h is = told-by_step (Alter key d) reading old new reply is refl
told-change (Add key at v on s) reading old new reply h is = told-by_step (Add key at v on s) reading old new reply is refl
told-change (Incr key v at s) reading old new reply h is = told-by_step (Incr key v at s) reading old new reply is refl
told-change (DelRange key from to) reading old new reply h is = told-by_step (DelRange key from to) reading old new reply is refl
told-change (CreateRule source dest agg grid) reading old new reply h is =
    told-by_step (CreateRule source dest agg grid) reading old new reply is refl
told-change (DeleteRule source dest) reading old new reply h is = told-by_step (DeleteRule source dest) reading old new reply is refl
told-change (Drop keys) reading old new reply h is = told-by_step (Drop keys) reading old new reply is refl
told-change (Range key latest q) reading old new reply h is = absurd (false≢true h)
told-change (MRange latest show filters q group) reading old new reply h is = absurd (false≢true h)
told-change (Get key latest) reading old new reply h is = absurd (false≢true h)
told-change (MGet latest show filters) reading old new reply h is = absurd (false≢true h)
told-change (QueryIndex filters) reading old new reply h is = absurd (false≢true h)
told-change (InfoOf key) reading old new reply h is = absurd (false≢true h)
told-change (Ping word) reading old new reply h is = absurd (false≢true h)
told-change (Echo word) reading old new reply h is = absurd (false≢true h)
told-change Quit reading old new reply h is = absurd (false≢true h)
told-change (Exists keys) reading old new reply h is = absurd (false≢true h)

-- ---- records

-- a command that changes nothing has no record
abbrev nothing : List ℕ
nothing = []

none-either : (b : Bool) → (if b then nothing else nothing) ≡ nothing
none-either true = refl
none-either false = refl

no-record : (c : Command) (reading : ℕ) (reply : Reply) → is_change c ≡ false → record_of c reading reply ≡ []
no-record (Range key latest q) reading reply h = none-either (is_error reply)
no-record (MRange latest show filters q group) reading reply h = none-either (is_error reply)
no-record (Get key latest) reading reply h = none-either (is_error reply)
no-record (MGet latest show filters) reading reply h = none-either (is_error reply)
no-record (QueryIndex filters) reading reply h = none-either (is_error reply)
no-record (InfoOf key) reading reply h = none-either (is_error reply)
no-record (Ping word) reading reply h = none-either (is_error reply)
no-record (Echo word) reading reply h = none-either (is_error reply)
no-record Quit reading reply h = none-either (is_error reply)
no-record (Exists keys) reading reply h = none-either (is_error reply)
no-record (Madd triples) reading reply h = absurd (false≢true (sym h))
no-record (Create key s) reading reply h = absurd (false≢true (sym h))
no-record (Alter key d) reading reply h = absurd (false≢true (sym h))
no-record (Add key at v on s) reading reply h = absurd (false≢true (sym h))
no-record (Incr key v at s) reading reply h = absurd (false≢true (sym h))
no-record (DelRange key from to) reading reply h = absurd (false≢true (sym h))
no-record (CreateRule source dest agg grid) reading reply h = absurd (false≢true (sym h))
no-record (DeleteRule source dest) reading reply h = absurd (false≢true (sym h))
no-record (Drop keys) reading reply h = absurd (false≢true (sym h))

-- the record is that of the command, once its reply is known
taken-record : (c : Command) (reading : ℕ) (r : Option Record) (reply : Reply) (written : List ℕ) → HasRecord reading c r → written ≡ text reply
    → (is_change c ≡ true → AreMaddItems (items_of reply)) → record_bytes r written ≡ record_of c reading reply
taken-record c reading None reply written has its_text are = sym (no-record c reading reply (sym has.0))
taken-record c reading (Some r) reply written has its_text are = ap (bytes_after r) its_text ∙ has.1 reply (are (sym has.0))

told-done : (c : Command) (reading : ℕ) (old new : DbState) (reply : Reply) → IsAnswered reading c old reply new ⊎ RunsOutOfMemory reading c old reply new → is_change c ≡ true → AreMaddItems (items_of reply)
told-done c reading old new reply (inl answered) change = told-change c reading old new reply change answered
told-done c reading old new reply (inr lost) change = subst (λ (r : Reply). AreMaddItems (items_of r)) (sym lost.out_of_memory.says) tt

-- three ways to answer; in the third there was no memory for the record
abbrev done-of : (c : Command) (reading : ℕ) (old new : DbState) (reply : Reply) → IsAnswered reading c old reply new ⊎ RunsOutOfMemory reading c old reply new
    → IsAnswered reading c old reply new ⊎ RunsOutOfMemory reading c old reply new ⊎ IsUnrecorded c old reply new
done-of c reading old new reply (inl answered) = inl answered
done-of c reading old new reply (inr lost) = inr (inl lost)

-- a command was executed with its record
pub executed-recorded : (c : Command) (reading : ℕ) (readings left : Option (List ℕ)) (r : Option Record) (old new : DbView) (written : List ℕ) → HasRecord reading c r
    → IsReading (needs_clock c) readings reading → left ≡ readings_after_use (needs_clock c) readings → Simulates old new (λ from to. Executes reading c from written to)
    → Simulates old new (λ from to. IsRecorded c (record { held = from; readings = readings }) written (record_bytes r written) (record { held = to; readings = left }))
executed-recorded c reading readings left r old new written has read left_is carries =
    carries_as old new (λ from to. Executes reading c from written to)
    (λ from to. IsRecorded c (record { held = from; readings = readings }) written (record_bytes r written) (record { held = to; readings = left }))
    (λ from to executes. record {
      reading = reading;
      read = read;
      left = left_is;
      reply = executes.reply;
      its_text = executes.its_text;
      done = done-of c reading from to executes.reply executes.done;
      its_record = taken-record c reading r executes.reply written has executes.its_text (told-done c reading from to executes.reply executes.done);
    }) carries

-- out of memory for the record of a change
pub unrecorded : (c : Command) (reading : ℕ) (readings left : Option (List ℕ)) (db_view : DbView) (written : List ℕ) → is_change c ≡ true → written ≡ text memory_reply
    → IsReading (needs_clock c) readings reading → left ≡ readings_after_use (needs_clock c) readings
    → Simulates db_view db_view (λ from to. IsRecorded c (record { held = from; readings = readings }) written [] (record { held = to; readings = left }))
unrecorded c reading readings left db_view written change is read left_is =
    carries_none db_view (λ from to. IsRecorded c (record { held = from; readings = readings }) written [] (record { held = to; readings = left }))
    (λ from stands. record {
      reading = reading;
      read = read;
      left = left_is;
      reply = memory_reply;
      its_text = is;
      done = inr (inr (record { change = change; out_of_memory = record { says = refl; same = refl } }));
      its_record = refl;
    })

-- ---- requests

-- valid arguments
pub recorded-command : (words : Request) (c : Command) (written record_ : List ℕ) (readings left : Option (List ℕ)) (old new : DbView) → command words ≡ Ok c
    → Simulates old new (λ from to. IsRecorded c (record { held = from; readings = readings }) written record_ (record { held = to; readings = left }))
    → Simulates old new (λ from to. Recorded words (record { held = from; readings = readings }) written record_ (record { held = to; readings = left }))
recorded-command words c written record_ readings left old new is carries =
    carries_as old new (λ from to. IsRecorded c (record { held = from; readings = readings }) written record_ (record { held = to; readings = left }))
    (λ from to. Recorded words (record { held = from; readings = readings }) written record_ (record { held = to; readings = left }))
    (λ from to recorded. inl (subst (λ (r : Result Command Fault). RecordedBy r (record { held = from; readings = readings }) written record_ (record { held = to; readings = left })) (sym is) recorded)) carries

-- invalid arguments, or out of memory while parsing them
pub recorded-fault : (words : Request) (fault : CommandFault) (readings : Option (List ℕ)) (db_view : DbView) (written : List ℕ) → IsFaultIn words fault → written ≡ text (Error (message fault))
    → Simulates db_view db_view (λ from to. Recorded words (record { held = from; readings = readings }) written [] (record { held = to; readings = readings }))
recorded-fault words fault readings db_view written is says =
    carries_none db_view (λ from to. Recorded words (record { held = from; readings = readings }) written [] (record { held = to; readings = readings }))
    (λ from stands. ⊎_elim
    (λ (refused : (f : Fault) × (command words ≡ Err f) × IsRefused f (record { held = from; readings = readings }) written (record { held = from; readings = readings })).
    inl (subst (λ (r : Result Command Fault). RecordedBy r (record { held = from; readings = readings }) written [] (record { held = from; readings = readings })) (sym refused.1) (refused.2, refl)))
    (λ (unread : IsOutOfMemoryReading words (record { held = from; readings = readings }) written (record { held = from; readings = readings })). inr (unread, refl))
    (refused_or_unread words fault (record { held = from; readings = readings }) written is says))
