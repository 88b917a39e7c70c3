use Rattle.std.proofs.Common.{◌≡◌, ◌-◌, []}
use Rattle.ts_db.specs.DbState.{Simulates}
use Rattle.ts_mux.specs.Muxing.{pending_items}
use Rattle.ts_host.specs.Causes.{Faults}
use Rattle.ts_host.specs.Serving.{Ran}
use Rattle.ts_host.specs.Shown.{connections_of, host_log, lent_by, shown, taken_by}
use Rattle.ts_host.proofs.serving.serve_hub.Given as goal

-- what was answered so far
abbrev pub invariant-loop-host : goal.invariant-loop-host
invariant-loop-host g l = record {
  ran : Simulates l.initial.db l.db (λ from to. Ran
      (shown g.J.Log.content l.initial.host from (g.C.Clock.readings l.initial.clock) (g.H.Hub.out l.initial.hub) (g.K.Sink.has l.initial.out))
      (shown g.J.Log.content l.host to (g.C.Clock.readings l.clock) (g.H.Hub.out l.hub) (g.K.Sink.has l.out))
      (g.H.Hub.coming l.initial.hub) (g.H.Hub.coming l.hub) (taken_by (connections_of l.host)));
  asked : pending_items (connections_of l.host).mux [] ≡ [];
  lent : lent_by l.host ≡ lent_by l.initial.host;
  fine : ◌≡◌ {A = Faults} (record { hub = g.H.Hub.faults l.hub; lines = g.K.Sink.faults l.out; journal = g.J.Log.faults (host_log l.host) })
      (record { hub = g.H.Hub.faults l.initial.hub; lines = g.K.Sink.faults l.initial.out; journal = g.J.Log.faults (host_log l.initial.host) });
}

abbrev pub decreases-loop-host : goal.decreases-loop-host
decreases-loop-host g l = l.budget - taken_by (connections_of l.host)
