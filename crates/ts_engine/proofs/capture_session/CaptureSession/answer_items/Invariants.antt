use Rattle.std.proofs.Common.{◌≡◌, []}
use Rattle.ts_db.specs.DbState.{Simulates}
use Rattle.ts_engine.specs.CaptureSteps.{HandledAll}
use Rattle.ts_engine.specs.CaptureView.{capture_progress, frames_in, waiting}
use Rattle.ts_engine.proofs.capture_session.CaptureSession.answer_items.Given as goal

-- what was answered so far, without a new frame
abbrev pub invariant-loop-capture_go : goal.invariant-loop-capture_go
invariant-loop-capture_go g l = record {
  went : Simulates l.initial.db l.db (λ from to. HandledAll (capture_progress l.initial.self from (g.C.Clock.readings l.initial.clock)) (capture_progress l.self to (g.C.Clock.readings l.clock))
      (g.K.Sink.has l.initial.out) (g.K.Sink.has l.out) []);
  frames : frames_in l.self ≡ frames_in l.initial.self;
  fine : g.K.Sink.faults l.out ≡ g.K.Sink.faults l.initial.out;
}

abbrev pub decreases-loop-capture_go : goal.decreases-loop-capture_go
decreases-loop-capture_go g l = waiting l.self
