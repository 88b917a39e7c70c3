-- What holds once a request was executed and its record appended, before any byte of its reply is written.
use Rattle.std.specs.Prelude.{◌≡◌, ℕ, List, Result, Ok, Err}
use Rattle.ts_spec.specs.Wire.{Request}
use Rattle.ts_execution.specs.Journaling.{Snapshot, IsJournaled, IsTorn, JournalFaults, JournalRose}

-- the whole record is in the journal; or the append failed, and a prefix of the record is
abbrev pub IsAppended : {T E : Type 0} → Result T E → Request → (reply : List ℕ) → (from to : Snapshot) → Type 0
IsAppended (Ok done) request reply from to = IsJournaled from request reply to
IsAppended (Err failed) request reply from to = IsTorn from request reply to

-- the append failed if and only if the journal's fault counter rose
abbrev pub HasAppendCause : {T E : Type 0} → Result T E → (own own' : JournalFaults) → Type 0
HasAppendCause (Ok done) own own' = own' ≡ own
HasAppendCause (Err failed) own own' = JournalRose own own'
