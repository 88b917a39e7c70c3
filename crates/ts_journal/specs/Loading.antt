-- What a journal loads to: the database after the changes in it.
use Rattle.std.specs.Prelude.{◌≡◌, ◌≤◌, ℕ, Bool, true, ◌&&◌, ◌||◌, ◌==◌, not, if◌then◌else◌, List, [], ◌∷◌, length, take, drop, Option, None, Some, Result, Ok, Err}
use Rattle.ts_spec.specs.Command.{Command}
use Rattle.ts_spec.specs.Grammar.{command, needs_clock}
use Rattle.ts_spec.specs.Refusal.{Fault}
use Rattle.ts_spec.specs.Replies.{reply_to}
use Rattle.ts_spec.specs.State.{State, empty}
use Rattle.ts_spec.specs.Step.{Outcome, step}
use Rattle.ts_spec.specs.Text.{Reply}
use Rattle.ts_spec.specs.Wire.{Stream, Then, Ended, Inside, Broken, STAR, stream_at}
use Rattle.ts_spec.specs.declared.limits.Limits.{Limits}
use Rattle.ts_spec.specs.declared.wire.WireLimits.{WireLimits}
use Rattle.ts_journal.specs.Limits.{journal_limits}
use Rattle.ts_journal.specs.Record.{is_change, is_error, items_of}
use Rattle.ts_journal.specs.RecordReplay.{has_error}

-- the state after all changes, and how many bytes are whole requests; or the offset after the last change before it
-- breaks
pub data Load : Type 0 where
  Loads : State → (place : ℕ) → Load
  BreaksAt : (place : ℕ) → Load

-- whether a reply is not an error and has no error among its items
abbrev pub is_accepted : Reply → Bool
is_accepted reply = not (is_error reply || has_error (items_of reply))

-- the state after a step, if its reply is accepted
abbrev pub accepted_state : Outcome → Option State
accepted_state done = if is_accepted (reply_to done.response) then Some done.state else None

-- the state after a command of a journal, which must be a change, must not ask for the time, and must be accepted
abbrev pub apply_recorded : Limits → State → Command → Option State
apply_recorded limits m c = if is_change c && not (needs_clock c) then accepted_state (step limits m 0 c) else None

-- the same for a request; there is no state if it is not a command
abbrev pub apply_recorded_request : Limits → State → Result Command Fault → Option State
apply_recorded_request limits m (Ok c) = apply_recorded limits m c
apply_recorded_request limits m (Err fault) = None

-- continues from the state after a request, or breaks after the request before it
abbrev pub continue_or_break : Option State → (place : ℕ) → (State → Load) → Load
continue_or_break None place on = BreaksAt place
continue_or_break (Some m) place on = on m

-- loads the rest of a stream of this size, from the state after the requests before offset `place`
abbrev pub load_on : Limits → State → (place size : ℕ) → Stream → Load
load_on limits m place size (Then request after rest) = continue_or_break (apply_recorded_request limits m (command request)) place (λ n. load_on limits n after size rest)
load_on limits m place size Ended = Loads m size
load_on limits m place size (Inside begin) = Loads m begin
load_on limits m place size (Broken kind at) = BreaksAt at

-- whether an unfinished rest can be the start of a record
abbrev pub begins_as_record : List ℕ → Bool
begins_as_record [] = true
begins_as_record (byte ∷ bytes) = byte == STAR

-- The same, but an unfinished rest that no record starts with breaks the journal, so it is never cut off.
abbrev pub unless_foreign : List ℕ → Load → Load
unless_foreign bytes (Loads m place) = if begins_as_record (drop place bytes) then Loads m place else BreaksAt place
unless_foreign bytes (BreaksAt place) = BreaksAt place

-- what these bytes load to, from this state
abbrev pub load_from : Limits → WireLimits → State → List ℕ → Load
load_from limits wire m bytes = unless_foreign bytes (load_on limits m 0 (length bytes) (stream_at (journal_limits wire) 0 bytes))

-- what a journal with these bytes loads to
abbrev pub load : Limits → List ℕ → Load
load limits bytes = load_from limits limits.wire empty bytes

-- all of these bytes are changes, which lead to this state
abbrev pub LoadsTo : Limits → List ℕ → State → Type 0
LoadsTo limits bytes m = load limits bytes ≡ Loads m (length bytes)
