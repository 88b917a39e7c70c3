-- The end of a wake-up.
use Rattle.std.specs.Prelude.{◌≡◌, ℕ, List, Option, None, Some}
use Rattle.ts_io.specs.Gathering.{log_of, whole}
use Rattle.ts_io.specs.Hubs.{LetsOut, Outgoing, Same}
use Rattle.ts_host.specs.Recorder.{gathered_of}
use Rattle.ts_host.specs.Steps.{Extends}
use Rattle.ts_host.specs.declared.host.HostFault.{HostFault}
use Rattle.ts_host.specs.declared.recorder.Recorder.{Recorder}

-- what the journal itself has, and what it will have with the records that wait
abbrev pub stored_by : {J : Type 0} → (content : J → Option (List ℕ)) → Recorder J → Option (List ℕ)
stored_by content r = content (log_of (gathered_of r))

abbrev pub whole_by : {J : Type 0} → (content : J → Option (List ℕ)) → Recorder J → Option (List ℕ)
whole_by content r = whole content (gathered_of r)

-- every record is in the journal, and every reply was let out
pub record IsSettled {J : Type 0} (content : J → Option (List ℕ)) (old new : Recorder J) (out out' : Outgoing) : Type 0 where
  pub same : whole_by content new ≡ whole_by content old
  pub stored : stored_by content new ≡ whole_by content old
  pub let_out : LetsOut out out'

-- the journal failed: it has some of the records that waited, and no reply was let out
pub record IsUnsettled {J : Type 0} (content : J → Option (List ℕ)) (old new : Recorder J) (out out' : Outgoing) : Type 0 where
  pub extends : Extends (stored_by content old) (stored_by content new)
  pub within : Extends (stored_by content new) (whole_by content old)
  pub kept_back : Same out out'

-- one or the other
abbrev pub Settles : {J : Type 0} → Option HostFault → (content : J → Option (List ℕ)) → (old new : Recorder J) → (out out' : Outgoing) → Type 0
Settles None content old new out out' = IsSettled content old new out out'
Settles (Some fault) content old new out out' = IsUnsettled content old new out out'
