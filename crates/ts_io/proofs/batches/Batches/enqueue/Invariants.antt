use Rattle.std.proofs.Common.{◌≡◌, [], length}
use Rattle.ts_io.specs.Batches.{Holds}
use Rattle.ts_io.specs.Sinks.{Grows}
use Rattle.ts_io.proofs.batches.Batches.enqueue.Given as goal

-- the bytes sent and queued are unchanged, and so are the bytes to come; no call has failed
abbrev pub invariant-loop-self : goal.invariant-loop-self
invariant-loop-self g l = record {
  has : Grows (Holds (g.C.Connection.has l.initial.self.connection) l.initial.self.waiting) (Holds (g.C.Connection.has l.self.connection) l.self.waiting) [];
  fine : g.C.Connection.faults l.self.connection ≡ g.C.Connection.faults l.initial.self.connection;
}

abbrev pub decreases-loop-self : goal.decreases-loop-self
decreases-loop-self g l = length l.self.waiting
