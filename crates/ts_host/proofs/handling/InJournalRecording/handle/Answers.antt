use Rattle.ts_execution.specs.Recording.{record_bytes}
use Rattle.ts_execution.proofs.Carried.{carries_as}
use Rattle.ts_host.proofs.Recordings.{handled_recorded}
use Rattle.ts_host.proofs.handling.InJournalRecording.handle.Goals as goal

pub returns-clause-handled : goal.returns-clause-handled
returns-clause-handled g c =
    carries_as _ _ _ _ (λ from to is.
    handled_recorded g.J.Log.content c.args.words.now.items (record { held = from; readings = g.C.Clock.readings c.args.clock.now }) c.handle_recorded.new.room.bytes
    (record_bytes c.handle_recorded.result.entry c.handle_recorded.new.room.bytes) (record { held = to; readings = g.C.Clock.readings c.handle_recorded.new.clock }) is)
    c.handle_recorded.ensures.recorded
