-- What `top` does in the mode `keep`: it loads the journal, answers the input on that database, and appends the record
-- of each change before it writes the reply.
use Rattle.std.specs.Prelude.{◌≡◌, ◌≢◌, ◌<◌, ◌≤◌, false, true, Bool, ℕ, nat_le, if◌then◌else◌, List, ◌++◌, length, take, Option, Some, String}
use Rattle.std.specs.declared.alloc.Global.{Global}
use Rattle.ts_io.specs.Causes.{Rose}
use Rattle.ts_spec.specs.State.{State}
use Rattle.ts_spec.specs.Wire.{Request}
use Rattle.ts_spec.specs.declared.limits.Limits.{Limits}
use Rattle.ts_spec.specs.declared.wire.WireLimits.{WireLimits}
use Rattle.ts_db.specs.DbState.{DbState}
use Rattle.ts_journal.specs.Loading.{Loads}
use Rattle.ts_checkpoint.specs.Loading.{load}
use Rattle.ts_checkpoint.specs.Fronts.{FrontLoads}
use Rattle.ts_words.specs.declared.mode.Mode.TheVariants as mode
use Rattle.ts_words.specs.declared.status.Status.{Status}
use Rattle.ts_words.specs.declared.status.Status.TheVariants as status
use Rattle.ts_execution.specs.Journaling.{kept, journaled}
use Rattle.ts_engine.specs.declared.journaling.JournalEnd.{JournalEnd}
use Rattle.ts_engine.specs.declared.journaling.JournalEnd.TheVariants as end
use Rattle.ts_engine.specs.declared.piped.End.{End}
use Rattle.ts_engine.specs.declared.piped.End.TheVariants as piped
use Rattle.ts_engine.specs.Answered.{IsOutOfMemoryOr}
use Rattle.ts_engine.specs.Asked.{asked}
use Rattle.ts_engine.specs.Headline.{Exchange, RunView, requests, asks_to_quit, ending}
use Rattle.ts_engine.specs.Status as input
use Rattle.ts_engine.specs.Opening.{NotLoaded, unloaded_status, unloaded_place, status_opened}
use Rattle.ts_engine.specs.InputTaken.{WrittenAndTaken}
use Rattle.ts_engine.specs.JournalPrefixes.{HandledRun, run_of, PrefixReplays, run_to_fault, ReplaysToFault}
use Rattle.ts_engine.specs.Top.{ReportsIn, status_by, status_cut}
use Rattle.ts_engine.specs.NotJournaled.{NotJournaledTaken}

-- the arguments select `keep`
abbrev pub IsKeep : List (String Global) → Type 0
IsKeep words = asked words ≡ Some mode.Keep

-- ---- the end

-- the status of an end
abbrev pub status_of : JournalEnd → Status
status_of (end.Answered e) = input.status_of e
status_of end.AppendFault = status.JournalFault
status_of (end.NotLoaded fault) = unloaded_status fault

-- the offset in the status line of an end; 0 if it has none
abbrev pub place_of : JournalEnd → ℕ
place_of (end.Answered e) = input.place_of e
place_of end.AppendFault = 0
place_of (end.NotLoaded fault) = unloaded_place fault

-- ---- the run

-- what a run shows, with the journal before and after
pub record JournalRun : Type 1 where
  pub seen : RunView
  pub journal : List ℕ
  pub journal_left : Option (List ℕ)

-- the exchange from the loaded database to `held`; the first `place` bytes of the journal are its complete requests
abbrev pub exchange_over : JournalRun → State → (place : ℕ) → (failed : Bool) → DbState → Exchange journaled
exchange_over run loaded place failed held = record {
  limits = run.seen.limits.wire;
  from = kept run.seen.readings (Some (take place run.journal)) false (record { limits = run.seen.limits; state = loaded });
  to = kept run.seen.readings_left run.journal_left failed held;
  had = run.seen.had;
  has = run.seen.has;
}

-- The journal was loaded and truncated after its last complete request, and the input was answered. The final journal
-- begins with what was loaded. Each prefix of it loads; one that contains what was loaded loads to a database within
-- the run whose replies were written.
pub record GoesOn (run : JournalRun) (bytes : List ℕ) (failed : Bool) (writes : Exchange journaled → Type 0) (handled : (exchange : Exchange journaled) → writes exchange → HandledRun) (replays : (exchange : Exchange journaled) → writes exchange → (front : List ℕ) → Type 0) : Type 0 where
  pub loaded : State
  pub place : ℕ
  pub loads : load run.seen.limits run.journal ≡ Loads loaded place
  pub held : DbState
  pub written : writes (exchange_over run loaded place failed held)
  pub others : List Request
  pub first : requests run.seen.limits.wire bytes ≡ (handled (exchange_over run loaded place failed held) written).asked ++ others
  pub journal : List ℕ
  pub content : run.journal_left ≡ Some journal
  pub begins : take place journal ≡ take place run.journal
  pub prefixes_load : (n : ℕ) → FrontLoads run.seen.limits journal n
  pub replay_matches : (n : ℕ) → place ≤ n → replays (exchange_over run loaded place failed held) written (take n journal)

-- what the run did, by how it ended; it either answered the input, or changed nothing and left the journal as it was
module _ (run : JournalRun) (untouched : Type 0) (budget : ℕ) (bytes : List ℕ) (left : Option (List ℕ)) where
  abbrev pub Untouched : Type 0
  Untouched = untouched × (run.journal_left ≡ Some run.journal)

  -- the journal was read to its end
  abbrev pub IsReadWhole : Type 0
  IsReadWhole = length run.journal < budget

  -- the journal was loaded, and the input ended like this
  abbrev pub GoesOnTo : End → Type 0
  GoesOnTo e =
      GoesOn run bytes false (λ exchange. WrittenAndTaken exchange budget bytes left e)
      (λ exchange written. run_of exchange budget bytes left e written.written)
      (λ exchange written. PrefixReplays run.seen.limits exchange.from (run_of exchange budget bytes left e written.written))

  -- the journal was loaded, but later a record could not be appended
  abbrev pub GoesOnToFault : Type 0
  GoesOnToFault =
      GoesOn run bytes true (λ exchange. NotJournaledTaken exchange budget bytes left)
      (λ exchange written. run_to_fault run.seen.limits exchange bytes written.not_journaled)
      (λ exchange written. ReplaysToFault run.seen.limits exchange bytes written.not_journaled)

  abbrev pub EndsAs : JournalEnd → Type 0
  EndsAs (end.Answered e) = IsReadWhole × GoesOnTo e
  EndsAs end.AppendFault = IsReadWhole × GoesOnToFault
  EndsAs (end.NotLoaded fault) = NotLoaded fault run.seen.limits budget run.journal Untouched

-- how a run with a journal ended, and how that was reported; a good end always has the good status
pub record Journaled (run : JournalRun) (untouched : Type 0) (budget : ℕ) (bytes : List ℕ) (left : Option (List ℕ)) (had has : List ℕ → Type 0) (given : Status) : Type 0 where
  pub ended : JournalEnd
  pub did : EndsAs run untouched budget bytes left ended
  pub reported : ReportsIn (Some mode.Keep) (status_of ended) (place_of ended) given had has
  pub quiet : ended ≡ end.Answered piped.Ended → given ≡ status.Ended

-- An end was reported by its status and line. Holds even if the bytes of the input and of the journal are unknown.
pub record HasJournalLine (had has : List ℕ → Type 0) (given : Status) : Type 0 where
  pub ended : JournalEnd
  pub reported : ReportsIn (Some mode.Keep) (status_of ended) (place_of ended) given had has
  pub quiet : ended ≡ end.Answered piped.Ended → given ≡ status.Ended

-- ---- the status if no device fails

-- the status for an input with these bytes, of which at most `budget` are read
abbrev pub status_piped : WireLimits → (budget : ℕ) → List ℕ → Status
status_piped limits budget bytes =
    if nat_le budget (length bytes)
    then status_cut (asks_to_quit limits (take budget bytes)) (ending limits (take budget bytes))
    else status_by (asks_to_quit limits bytes) (ending limits bytes)

-- the status of a run over this journal
abbrev pub status_journaled : Limits → (budget : ℕ) → (journal bytes : List ℕ) → Status
status_journaled limits budget journal bytes = status_opened limits budget journal (status_piped limits.wire budget bytes)

-- ---- answering

-- what was written for an input with these bytes, by the end; `failed` gives the exchange, by whether the journal
-- failed
abbrev pub Wrote : JournalEnd → (failed : Bool → Exchange journaled) → (budget : ℕ) → List ℕ → (left : Option (List ℕ)) → Type 0
Wrote (end.Answered e) failed budget bytes left = WrittenAndTaken (failed false) budget bytes left e
Wrote end.AppendFault failed budget bytes left = NotJournaledTaken (failed true) budget bytes left
Wrote (end.NotLoaded fault) failed budget bytes left = ⊥

-- How an input with these bytes was answered. If no fault counter rose, the status is that of the input, or out of
-- memory.
pub record IsAnswered (ended : JournalEnd) (failed : Bool → Exchange journaled) (limits : WireLimits) (budget : ℕ) (bytes : List ℕ) (left : Option (List ℕ)) (reads reads' writes writes' faults faults' : ℕ) : Type 0 where
  pub written : Wrote ended failed budget bytes left
  pub complete : (Rose reads reads' → ⊥) → (Rose writes writes' → ⊥) → (Rose faults faults' → ⊥) → IsOutOfMemoryOr (status_of ended) (status_piped limits budget bytes)

-- a status tells of a fault if and only if its counter rose
pub record HasJournalCauses (given : Status) (reads reads' writes writes' faults faults' : ℕ) : Type 0 where
  pub read : given ≡ status.ReadFault → Rose reads reads'
  pub write : given ≡ status.WriteFault → Rose writes writes'
  pub failed : given ≡ status.JournalFault → Rose faults faults'
  pub unread : given ≢ status.ReadFault → reads' ≡ reads
  pub unwritten : given ≢ status.WriteFault → writes' ≡ writes
  pub unfailed : given ≢ status.JournalFault → faults' ≡ faults
