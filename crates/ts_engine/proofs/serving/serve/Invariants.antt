use Rattle.std.proofs.Common.{◌≡◌, ◌≤◌, false}
use Rattle.ts_db.specs.DbState.{Simulates}
use Rattle.ts_engine.specs.declared.serving.Served.TheVariants.{Done}
use Rattle.ts_engine.specs.Serving.{Serves}
use Rattle.ts_engine.proofs.serving.serve.Given as goal

-- the first connections were served, and their lines written
abbrev pub invariant-loop-link : goal.invariant-loop-link
invariant-loop-link g l = record {
  serves : Simulates l.initial.db l.db (λ from to. Serves
      (record { left = g.N.In.Source.left; reads = g.N.In.Source.faults; has = g.N.Out.Sink.has; writes = g.N.Out.Sink.faults }) l.fn.limits l.fn.budget Done 1 l.link
      (record { held = from; readings = g.C.Clock.readings l.initial.clock }) (record { held = to; readings = g.C.Clock.readings l.clock })
      (g.N.Listener.coming l.initial.net) (g.N.Listener.coming l.net) (g.N.Listener.closed l.initial.net) (g.N.Listener.closed l.net)
      (g.K.Sink.has l.initial.out) (g.K.Sink.has l.out));
  net : g.N.Listener.has_open_link l.net ≡ false;
  accepts : g.N.Listener.faults l.net ≡ g.N.Listener.faults l.initial.net;
  writes : g.K.Sink.faults l.out ≡ g.K.Sink.faults l.initial.out;
  within : l.link ≤ l.links;
}
