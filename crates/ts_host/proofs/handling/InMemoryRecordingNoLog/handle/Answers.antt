use Rattle.std.proofs.Common.{[], refl}
use Rattle.std.specs.Prelude.{None}
use Rattle.ts_execution.proofs.Carried.{carries_as}
use Rattle.ts_host.proofs.Recordings.{handled_unrecorded}
use Rattle.ts_host.proofs.handling.InMemoryRecordingNoLog.handle.Goals as goal

pub returns-clause-handled : goal.returns-clause-handled
returns-clause-handled g c =
    carries_as _ _ _ _ (λ from to is.
    handled_unrecorded (λ log. None) (λ log. refl) c.args.words.now.items (record { held = from; readings = g.C.Clock.readings c.args.clock.now }) c.handle_request-quits.new.room.bytes
    [] (record { held = to; readings = g.C.Clock.readings c.handle_request-quits.new.clock }) is)
    c.handle_request-quits.ensures.handles
