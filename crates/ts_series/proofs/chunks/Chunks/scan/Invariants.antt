use Rattle.std.proofs.Common.{◌≡◌, ◌+◌, ◌≤◌, take, length}
use Rattle.ts_spec.specs.Sample.{between}
use Rattle.ts_sample.specs.Chunk.{joined}
use Rattle.ts_sample.specs.Visit as visit
use Rattle.ts_series.proofs.chunks.Chunks.scan.Given as goal

abbrev pub invariant-loop-place : goal.invariant-loop-place
invariant-loop-place g l = record {
  visited : l.visit ≡ visit.visited g.V.Visit.step l.fn.visit (between l.from l.to (joined (take l.place l.self.pieces)));
  counted : l.fn.steps + length (between l.from l.to (joined (take l.place l.self.pieces))) ≤ l.steps;
  bounded : l.steps + length (joined (take l.start l.self.pieces)) ≤ l.fn.steps + length (joined (take l.place l.self.pieces));
}
