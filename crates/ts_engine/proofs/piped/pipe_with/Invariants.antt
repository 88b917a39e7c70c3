use Rattle.std.proofs.Common.{◌-◌, ◌≡◌, ◌≤◌, None}
use Rattle.ts_resp.specs.Reading.{fed}
use Rattle.ts_db.specs.DbState.{Simulates}
use Rattle.ts_execution.specs.Handler.{NoFault}
use Rattle.ts_engine.specs.SessionView.{progress_in, reader_of, ended_of, HasAnswered}
use Rattle.ts_engine.proofs.Pipes.{SoFar}
use Rattle.ts_engine.proofs.piped.pipe_with.Given as goal

-- every complete request in the bytes read was handled, and the session continues
abbrev pub invariant-loop-taken : goal.invariant-loop-taken
invariant-loop-taken g l = record {
  so_far : Simulates l.initial.db l.db (λ from to. SoFar l.fn.limits.wire l.taken (g.T.Handler.world l.initial.handler from (g.C.Clock.readings l.initial.clock))
      (progress_in g.T.Handler.kind l.session (g.T.Handler.world l.handler to (g.C.Clock.readings l.clock))) (g.S.Source.left l.initial.input) (g.S.Source.left l.input)
      (g.K.Sink.has l.initial.out) (g.K.Sink.has l.out));
  current : HasAnswered l.session;
  goes_on : ended_of l.session ≡ None;
  fed : fed (reader_of l.session) ≡ l.taken;
  within : l.taken ≤ l.fn.limits.budget;
  reads : g.S.Source.faults l.input ≡ g.S.Source.faults l.initial.input;
  writes : NoFault g.T.Handler.kind (g.K.Sink.faults l.initial.out) (g.K.Sink.faults l.out) (g.T.Handler.own l.initial.handler) (g.T.Handler.own l.handler);
  lent : g.T.Handler.lent l.handler ≡ g.T.Handler.lent l.initial.handler;
}

abbrev pub decreases-loop-taken : goal.decreases-loop-taken
decreases-loop-taken g l = l.fn.limits.budget - l.taken
