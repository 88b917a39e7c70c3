use Rattle.std.proofs.Common.{◌≡◌, length, ◌-◌, ◌≤◌, take}
use Rattle.ts_io.specs.Sinks.{Grows}
use Rattle.ts_io.proofs.streams.write_all_counted.Given as goal

abbrev pub invariant-loop-written : goal.invariant-loop-written
invariant-loop-written g l = record {
  within : l.written ≤ length l.bytes;
  fine : g.K.Sink.faults l.sink ≡ g.K.Sink.faults l.initial.sink;
  grown : Grows (g.K.Sink.has l.initial.sink) (g.K.Sink.has l.sink) (take l.written l.bytes);
}

abbrev pub decreases-loop-written : goal.decreases-loop-written
decreases-loop-written g l = length l.bytes - l.written
