use Rattle.std.proofs.Common.{◌≡◌, ◌-◌, []}
use Rattle.ts_resp.specs.Reading.{fed}
use Rattle.ts_db.specs.DbState.{Simulates}
use Rattle.ts_execution.specs.Handler.{NoFault}
use Rattle.ts_engine.specs.Session.{HandledAll}
use Rattle.ts_engine.specs.SessionView.{progress_in, reader_of}
use Rattle.ts_engine.proofs.session.Session.answer_all.Given as goal

-- what was done so far, without new bytes
abbrev pub invariant-loop-go : goal.invariant-loop-go
invariant-loop-go g l = record {
  went : Simulates l.initial.db l.db (λ from to. HandledAll (progress_in g.T.Handler.kind l.initial.self (g.T.Handler.world l.initial.handler from (g.C.Clock.readings l.initial.clock)))
      (progress_in g.T.Handler.kind l.self (g.T.Handler.world l.handler to (g.C.Clock.readings l.clock)))
      (g.K.Sink.has l.initial.out) (g.K.Sink.has l.out) [] []);
  fed : fed (reader_of l.self) ≡ fed (reader_of l.initial.self);
  fine : NoFault g.T.Handler.kind (g.K.Sink.faults l.initial.out) (g.K.Sink.faults l.out) (g.T.Handler.own l.initial.handler) (g.T.Handler.own l.handler);
  lent : g.T.Handler.lent l.handler ≡ g.T.Handler.lent l.initial.handler;
}

abbrev pub decreases-loop-go : goal.decreases-loop-go
decreases-loop-go g l = fed (reader_of l.self) - (reader_of l.self).begin
