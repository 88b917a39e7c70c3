use Rattle.std.proofs.Common.{◌≡◌, length}
use Rattle.std.specs.Io.KnownBytes.{Keeps}
use Rattle.ts_io.proofs.system.read_retried.Given as goal

-- the buffer keeps its length, and an interrupted read consumes nothing
abbrev pub invariant-loop : goal.invariant-loop
invariant-loop g l = record {
  size : length l.buf ≡ length l.initial.buf;
  kept : Keeps (g.R.Read.remaining l.initial.reader) (g.R.Read.remaining l.reader);
}
