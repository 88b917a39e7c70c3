-- Request handling with a journal: the record of each change is appended before the reply is written.
use Rattle.std.specs.Prelude.{◌≡◌, ◌⊎◌, ℕ, ◌≤◌, Bool, true, List, [], take, length, Option, Result, Ok, Err}
use Rattle.std.specs.Io.KnownBytes.{append_known}
use Rattle.ts_io.specs.Causes.{Rose}
use Rattle.ts_spec.specs.Command.{Command}
use Rattle.ts_spec.specs.Grammar.{command, needs_clock}
use Rattle.ts_spec.specs.Refusal.{Fault}
use Rattle.ts_spec.specs.Text.{Reply, text}
use Rattle.ts_spec.specs.Wire.{Request}
use Rattle.ts_db.specs.DbState.{DbState}
use Rattle.ts_journal.specs.Record.{is_change, record_of}
use Rattle.ts_execution.specs.Handling.{World, IsReading, readings_after_use, IsAnswered, RunsOutOfMemory, IsOutOfMemory, IsRefused, IsOutOfMemoryReading}
use Rattle.ts_execution.specs.Handler.{Handler}

-- the database, the clock readings left, the journal's content (the last two if known), and whether the journal failed
pub record Snapshot : Type 0 where
  pub held : DbState
  pub readings : Option (List ℕ)
  pub content : Option (List ℕ)
  pub failed : Bool

-- the same without the journal
abbrev pub served : Snapshot → World
served kept = record { held = kept.held; readings = kept.readings }

-- builds it from its parts
abbrev pub kept : (readings content : Option (List ℕ)) → (failed : Bool) → DbState → Snapshot
kept readings content failed held = record { held = held; readings = readings; content = content; failed = failed }

-- ---- a request and its record

-- a change fails with out of memory, since there was none for its record; nothing changes
pub record IsUnrecorded (c : Command) (old : DbState) (reply : Reply) (new : DbState) : Type 0 where
  pub change : is_change c ≡ true
  pub out_of_memory : IsOutOfMemory old reply new

-- the command was executed at a clock reading, and `record_` is its record with the same reading
pub record IsRecorded (c : Command) (from : World) (written record_ : List ℕ) (to : World) : Type 0 where
  pub reading : ℕ
  pub read : IsReading (needs_clock c) from.readings reading
  pub left : to.readings ≡ readings_after_use (needs_clock c) from.readings
  pub reply : Reply
  pub its_text : written ≡ text reply
  pub done : IsAnswered reading c from.held reply to.held ⊎ RunsOutOfMemory reading c from.held reply to.held ⊎ IsUnrecorded c from.held reply to.held
  pub its_record : record_ ≡ record_of c reading reply

-- by the parsed arguments: an invalid command has no record
abbrev pub RecordedBy : Result Command Fault → World → (written record_ : List ℕ) → World → Type 0
RecordedBy (Ok c) from written record_ to = IsRecorded c from written record_ to
RecordedBy (Err fault) from written record_ to = IsRefused fault from written to × (record_ ≡ [])

-- how a request was answered, what it changed, and its record
abbrev pub Recorded : Request → World → (written record_ : List ℕ) → World → Type 0
Recorded request from written record_ to = RecordedBy (command request) from written record_ to ⊎ (IsOutOfMemoryReading request from written to × (record_ ≡ []))

-- ---- appending to the journal

-- the request was handled, and its record was appended
pub record IsJournaled (from : Snapshot) (request : Request) (written : List ℕ) (to : Snapshot) : Type 0 where
  pub record_ : List ℕ
  pub recorded : Recorded request (served from) written record_ (served to)
  pub content : to.content ≡ append_known from.content record_
  pub failed : to.failed ≡ from.failed

-- the request was handled, but the journal failed and holds only a prefix of the record
pub record IsTorn (from : Snapshot) (request : Request) (written : List ℕ) (to : Snapshot) : Type 0 where
  pub record_ : List ℕ
  pub kept : ℕ
  pub within : kept ≤ length record_
  pub recorded : Recorded request (served from) written record_ (served to)
  pub content : to.content ≡ append_known from.content (take kept record_)
  pub failed : to.failed ≡ true

-- a write failed within the reply, whose record is in the journal; or the journal failed, and no byte of the reply was
-- written
abbrev pub IsCut : (from : Snapshot) → Request → (written : List ℕ) → (kept : ℕ) → (to : Snapshot) → Type 0
IsCut from request written kept to = IsJournaled from request written to ⊎ ((kept ≡ 0) × IsTorn from request written to)

-- whether the journal failed, and its fault counter
pub record JournalFaults : Type 0 where
  pub failed : Bool
  pub count : ℕ

-- the journal failed, and its fault counter rose
pub record JournalRose (before now : JournalFaults) : Type 0 where
  pub failed : now.failed ≡ true
  pub later : before.count ≤ now.count
  pub rose : Rose before.count now.count

-- the handler that appends to a journal, which may fail
abbrev pub journal_handler : Handler
journal_handler = record { World = Snapshot; handles = IsJournaled; cut = IsCut; Faults = JournalFaults; rose = JournalRose }

-- ---- a journal that did not fail

-- the same, where only writing a reply can fail
abbrev pub journaled : Handler
journaled = record {
  World = Snapshot;
  handles = IsJournaled;
  cut = λ from request reply kept to. IsJournaled from request reply to;
  Faults = Unit {0};
  rose = λ before now. ⊥;
}
