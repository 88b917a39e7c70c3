use Rattle.std.proofs.Common.{◌≡◌, ℕ, ◌+◌, ◌-◌, ◌≤◌}
use Rattle.ts_mux.specs.ClosedLinks.{is_closed, index_of, reader_of}
use Rattle.ts_mux.proofs.open_connections.OpenConnections.reach.Given as goal

abbrev pub invariant-loop-self : goal.invariant-loop-self
invariant-loop-self l = record {
  longer : l.initial.self.reached ≤ l.self.reached;
  same : (at : ℕ) → is_closed l.self at ≡ is_closed l.initial.self at;
  indexes : (at : ℕ) → index_of l.self at ≡ index_of l.initial.self at;
  readers : (at : ℕ) → reader_of l.self at ≡ reader_of l.initial.self at;
}

abbrev pub decreases-loop-self : goal.decreases-loop-self
decreases-loop-self l = l.link + 1 - l.self.reached
