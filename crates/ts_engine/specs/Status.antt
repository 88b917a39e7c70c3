-- The exit status for each end of a stream, and the offset in the status line.
use Rattle.std.specs.Prelude.{ℕ}
use Rattle.ts_words.specs.declared.status.Status.{Status}
use Rattle.ts_words.specs.declared.status.Status.TheVariants as status
use Rattle.ts_engine.specs.declared.piped.End.{End}
use Rattle.ts_engine.specs.declared.piped.End.TheVariants as end

-- the status of an end
abbrev pub status_of : End → Status
status_of end.Ended = status.Ended
status_of (end.Truncated place) = status.Truncated
status_of (end.Protocol fault) = status.Protocol
status_of end.ReadFault = status.ReadFault
status_of end.WriteFault = status.WriteFault
status_of end.Memory = status.Memory
status_of end.Budget = status.Budget

-- the offset in the status line of an end; 0 if it has none
abbrev pub place_of : End → ℕ
place_of (end.Truncated place) = place
place_of (end.Protocol fault) = fault.place
place_of end.Ended = 0
place_of end.ReadFault = 0
place_of end.WriteFault = 0
place_of end.Memory = 0
place_of end.Budget = 0
