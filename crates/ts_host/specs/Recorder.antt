-- The records of changes: what handling a request makes of them, and the log of a recorder.
use Rattle.std.specs.Prelude.{◌≡◌, ◌⊎◌, ℕ, List, Option, None}
use Rattle.ts_io.specs.declared.gathered.Gathered.{Gathered}
use Rattle.ts_spec.specs.Wire.{Request}
use Rattle.ts_execution.specs.Handling.{World}
use Rattle.ts_execution.specs.Journaling.{Recorded}
use Rattle.ts_host.specs.declared.recorder.Recorder.{Recorder}

-- A request was handled, and `bytes` are what a log is given for it: its record, or anything if no log knows its
-- content.
pub record IsHandled {J : Type 0} (content : J → Option (List ℕ)) (request : Request) (from : World) (written bytes : List ℕ) (to : World) : Type 0 where
  pub record_ : List ℕ
  pub recorded : Recorded request from written record_ to
  pub given : (bytes ≡ record_) ⊎ ((log : J) → content log ≡ None)

-- the log of a recorder, with the records that wait
abbrev pub gathered_of : {J : Type 0} → Recorder J → Gathered J
gathered_of r = r.log
