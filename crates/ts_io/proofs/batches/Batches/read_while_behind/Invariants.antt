use Rattle.std.proofs.Common.{◌≡◌, []}
use Rattle.ts_io.specs.Batches.{Holds}
use Rattle.ts_io.specs.Sinks.{Grows}
use Rattle.ts_io.proofs.batches.Batches.read_while_behind.Given as goal

-- the bytes sent and queued are unchanged, and so are the bytes to come; no call has failed
abbrev pub invariant-loop : goal.invariant-loop
invariant-loop g l = record {
  has : Grows (Holds (g.C.Connection.has l.initial.self.connection) l.initial.self.waiting) (Holds (g.C.Connection.has l.self.connection) l.self.waiting) [];
  left : g.C.Connection.left l.self.connection ≡ g.C.Connection.left l.initial.self.connection;
  fine : g.C.Connection.faults l.self.connection ≡ g.C.Connection.faults l.initial.self.connection;
}
