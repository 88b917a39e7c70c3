use Rattle.std.proofs.Common.{◌≡◌, []}
use Rattle.ts_db.specs.DbState.{Simulates}
use Rattle.ts_mux.specs.Muxing.{pending_items}
use Rattle.ts_mux.specs.Order.{without}
use Rattle.ts_host.specs.Causes.{Faults}
use Rattle.ts_host.specs.Serving.{Went}
use Rattle.ts_host.specs.Shown.{connections_of, host_log, lent_by, reached, shown, taken_by, waiting}
use Rattle.ts_host.proofs.host.Host.answer_all.Given as goal

-- what was answered so far
abbrev pub invariant-loop-steps : goal.invariant-loop-steps
invariant-loop-steps g l = record {
  went : Simulates l.initial.db l.db (λ from to. Went
      (shown g.J.Log.content l.initial.self from (g.C.Clock.readings l.initial.clock) (g.H.Hub.out l.initial.hub) (g.K.Sink.has l.initial.out))
      (shown g.J.Log.content l.self to (g.C.Clock.readings l.clock) (g.H.Hub.out l.hub) (g.K.Sink.has l.out)) []);
  own : without l.link (pending_items (connections_of l.self).mux []) ≡ [];
  reach : reached (connections_of l.self) ≡ reached (connections_of l.initial.self);
  taken : taken_by (connections_of l.self) ≡ taken_by (connections_of l.initial.self);
  lent : lent_by l.self ≡ lent_by l.initial.self;
  coming : g.H.Hub.coming l.hub ≡ g.H.Hub.coming l.initial.hub;
  fine : ◌≡◌ {A = Faults} (record { hub = g.H.Hub.faults l.hub; lines = g.K.Sink.faults l.out; journal = g.J.Log.faults (host_log l.self) })
      (record { hub = g.H.Hub.faults l.initial.hub; lines = g.K.Sink.faults l.initial.out; journal = g.J.Log.faults (host_log l.initial.self) });
}

abbrev pub decreases-loop-steps : goal.decreases-loop-steps
decreases-loop-steps g l = waiting (connections_of l.self)
