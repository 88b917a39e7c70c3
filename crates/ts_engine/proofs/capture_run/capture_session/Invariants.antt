use Rattle.std.proofs.Common.{◌-◌, ◌≡◌, ◌≤◌}
use Rattle.ts_db.specs.DbState.{Simulates}
use Rattle.ts_mux.specs.Framing.{fed}
use Rattle.ts_engine.specs.CaptureView.{capture_progress, frames_in, HasAnswered}
use Rattle.ts_engine.proofs.CapturePumps.{SoFar}
use Rattle.ts_engine.proofs.capture_run.capture_session.Given as goal

-- every complete frame in the bytes read was answered
abbrev pub invariant-loop-taken : goal.invariant-loop-taken
invariant-loop-taken g l = record {
  so_far : Simulates l.initial.db l.db (λ from to. SoFar l.fn.limits l.taken (record { held = from; readings = g.C.Clock.readings l.initial.clock })
      (capture_progress l.capture_session to (g.C.Clock.readings l.clock)) (g.S.Source.left l.initial.input) (g.S.Source.left l.input)
      (g.K.Sink.has l.initial.out) (g.K.Sink.has l.out));
  answered : HasAnswered l.capture_session;
  fed : fed (frames_in l.capture_session) ≡ l.taken;
  within : l.taken ≤ l.budget;
  reads : g.S.Source.faults l.input ≡ g.S.Source.faults l.initial.input;
  writes : g.K.Sink.faults l.out ≡ g.K.Sink.faults l.initial.out;
}

abbrev pub decreases-loop-taken : goal.decreases-loop-taken
decreases-loop-taken g l = l.budget - l.taken
