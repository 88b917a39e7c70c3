use Rattle.std.proofs.Common.{◌≡◌, length, ◌-◌, ◌≤◌, take}
use Rattle.std.specs.Io.KnownBytes.{append_known}
use Rattle.ts_io.proofs.log.append_all_counted.Given as goal

abbrev pub invariant-loop-written : goal.invariant-loop-written
invariant-loop-written g l = record {
  within : l.written ≤ length l.bytes;
  fine : g.J.Log.faults l.log ≡ g.J.Log.faults l.initial.log;
  place : g.J.Log.place l.log ≡ g.J.Log.place l.initial.log;
  draft : g.J.Log.drafted l.log ≡ g.J.Log.drafted l.initial.log;
  added : g.J.Log.content l.log ≡ append_known (g.J.Log.content l.initial.log) (take l.written l.bytes);
}

abbrev pub decreases-loop-written : goal.decreases-loop-written
decreases-loop-written g l = length l.bytes - l.written
