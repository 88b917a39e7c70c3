-- A request that was handled, with or without its record, and what the log is given for it.
use Rattle.std.proofs.Common.{◌≡◌, ◌⊎◌, ◌∙◌, ℕ, List, [], ◌++◌, refl, sym, ap, inl, inr, ⊎_elim}
use Rattle.std.specs.Prelude.{Option, None, Result, Ok, Err, false}
use Rattle.std.specs.Io.KnownBytes.{append_known}
use Rattle.ts_io.specs.Logs.{AppendsPrefix}
use Rattle.ts_spec.specs.Command.{Command}
use Rattle.ts_spec.specs.Grammar.{command}
use Rattle.ts_spec.specs.Refusal.{Fault}
use Rattle.ts_spec.specs.Wire.{Request}
use Rattle.ts_db.specs.DbState.{DbView, Simulates}
use Rattle.ts_journal.specs.Record.{record_of}
use Rattle.ts_execution.specs.Handling.{World, HandlesBy, handles}
use Rattle.ts_execution.specs.Journaling.{kept, Recorded, RecordedBy, IsJournaled}
use Rattle.ts_execution.proofs.Carried.{carries_as}
use Rattle.ts_host.specs.Executing.{IsUntold}
use Rattle.ts_host.specs.Recorder.{IsHandled}
use Rattle.ts_host.specs.Steps.{Extends}
use Rattle.ts_host.proofs.Contents.{adds_twice, prefix_extends, prefix_within}

-- ---- a request that was handled has a record, even if nobody makes it

record_by : (r : Result Command Fault) (from : World) (written : List ℕ) (to : World) → HandlesBy r from written to → (record_ : List ℕ) × RecordedBy r from written record_ to
record_by (Ok c) from written to is = (
  record_of c is.reading is.executes.reply,
  record {
    reading = is.reading;
    read = is.read;
    left = is.left;
    reply = is.executes.reply;
    its_text = is.executes.its_text;
    done = ⊎_elim (λ a. inl a) (λ lost. inr (inl lost)) is.executes.done;
    its_record = refl;
  },
)
record_by (Err fault) from written to is = ([], (is, refl))

has_record : (request : Request) (from : World) (written : List ℕ) (to : World) → handles from request written to → (record_ : List ℕ) × Recorded request from written record_ to
has_record request from written to (inl is) =
    let made = record_by (command request) from written to is in
    (made.0, inl made.1)
has_record request from written to (inr lost) = ([], inr (lost, refl))

-- it was recorded
pub handled_recorded : {J : Type 0} (content : J → Option (List ℕ)) (request : Request) (from : World) (written record_ : List ℕ) (to : World)
    → Recorded request from written record_ to → IsHandled content request from written record_ to
handled_recorded content request from written record_ to is = record { record_ = record_; recorded = is; given = inl refl }

-- it was not, and no log knows its content
pub handled_unrecorded : {J : Type 0} (content : J → Option (List ℕ)) → ((log : J) → content log ≡ None) → (request : Request) (from : World) (written bytes : List ℕ) (to : World)
    → handles from request written to → IsHandled content request from written bytes to
handled_unrecorded content none request from written bytes to is =
    let made = has_record request from written to is in
    record { record_ = made.0; recorded = made.1; given = inr none }

-- ---- what the log is given, behind the records that wait

same_content : {J : Type 0} (content : J → Option (List ℕ)) (log : J) (waits bytes record_ : List ℕ) → (bytes ≡ record_) ⊎ ((l : J) → content l ≡ None)
    → append_known (append_known (content log) waits) record_ ≡ append_known (append_known (content log) waits) bytes
same_content content log waits bytes record_ (inl same) = ap (λ (l : List ℕ). append_known (append_known (content log) waits) l) (sym same)
same_content content log waits bytes record_ (inr none) =
    ap (λ (o : Option (List ℕ)). append_known (append_known o waits) record_) (none log) ∙ sym (ap (λ (o : Option (List ℕ)). append_known (append_known o waits) bytes) (none log))

module _ {J : Type 0} (content : J → Option (List ℕ)) (log log' : J) (words : Request) (written bytes : List ℕ) (readings left : Option (List ℕ)) (waits waits' : List ℕ) (old new : DbView)
    (handled : Simulates old new (λ from to. IsHandled content words (record { held = from; readings = readings }) written bytes (record { held = to; readings = left })))
    (front : AppendsPrefix (content log) (content log') (waits ++ bytes)) where
  -- it was added
  pub recorded_whole : append_known (content log') waits' ≡ append_known (append_known (content log) waits) bytes
      → Simulates old new (λ from to. IsJournaled (kept readings (append_known (content log) waits) false from) words written (kept left (append_known (content log') waits') false to) × Extends (content log) (content log'))
  recorded_whole all =
      carries_as old new (λ from to. IsHandled content words (record { held = from; readings = readings }) written bytes (record { held = to; readings = left }))
      (λ from to. IsJournaled (kept readings (append_known (content log) waits) false from) words written (kept left (append_known (content log') waits') false to) × Extends (content log) (content log'))
      (λ from to is. (
        record { record_ = is.record_; recorded = is.recorded; content = all ∙ sym (same_content content log waits bytes is.record_ is.given); failed = refl },
        prefix_extends (content log) (content log') (waits ++ bytes) front,
      )) handled

  -- it was added, but the request was not counted
  pub recorded_uncounted : append_known (content log') waits' ≡ append_known (append_known (content log) waits) bytes
      → Simulates old new (λ from to. IsUntold words written (kept readings (append_known (content log) waits) false from) (kept left (append_known (content log') waits') false to) (content log) (content log'))
  recorded_uncounted all =
      carries_as old new (λ from to. IsHandled content words (record { held = from; readings = readings }) written bytes (record { held = to; readings = left }))
      (λ from to. IsUntold words written (kept readings (append_known (content log) waits) false from) (kept left (append_known (content log') waits') false to) (content log) (content log'))
      (λ from to is. record {
        world = kept left (append_known (content log') waits') false to;
        held = refl;
        readings = refl;
        journaled = record { record_ = is.record_; recorded = is.recorded; content = all ∙ sym (same_content content log waits bytes is.record_ is.given); failed = refl };
        extends = prefix_extends (content log) (content log') (waits ++ bytes) front;
        within = (waits', refl);
      }) handled

  -- the journal failed
  pub recorded_torn : Simulates old new (λ from to. IsUntold words written (kept readings (append_known (content log) waits) false from) (kept left (append_known (content log') waits') false to) (content log) (content log'))
  recorded_torn =
      carries_as old new (λ from to. IsHandled content words (record { held = from; readings = readings }) written bytes (record { held = to; readings = left }))
      (λ from to. IsUntold words written (kept readings (append_known (content log) waits) false from) (kept left (append_known (content log') waits') false to) (content log) (content log'))
      (λ from to is. record {
        world = kept left (append_known (append_known (content log) waits) is.record_) false to;
        held = refl;
        readings = refl;
        journaled = record { record_ = is.record_; recorded = is.recorded; content = refl; failed = refl };
        extends = prefix_extends (content log) (content log') (waits ++ bytes) front;
        within = prefix_within (content log) (content log') (append_known (append_known (content log) waits) is.record_) (waits ++ bytes) front
            (same_content content log waits bytes is.record_ is.given ∙ adds_twice (content log) waits bytes);
      }) handled
