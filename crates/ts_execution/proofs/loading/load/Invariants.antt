use Rattle.std.proofs.Common.{◌≡◌, ◌≤◌, ◌-◌}
use Rattle.ts_io.specs.Logs.{unread}
use Rattle.ts_resp.specs.Reading.{fed}
use Rattle.ts_execution.proofs.WholeLoads.{ReadSoFar}
use Rattle.ts_execution.proofs.loading.load.Given as goal

-- the bytes read so far were replayed
abbrev pub invariant-loop-taken : goal.invariant-loop-taken
invariant-loop-taken g l = record {
  so_far : ReadSoFar l.fn.limits (unread (g.J.Log.content l.initial.log) (g.J.Log.place l.initial.log)) (unread (g.J.Log.content l.log) (g.J.Log.place l.log)) l.taken l.initial.db l.db l.loading l.is_record;
  within : fed l.loading.reader ≤ l.taken;
  place : g.J.Log.place l.log ≡ l.taken;
  most : l.taken ≤ l.budget;
  content : g.J.Log.content l.log ≡ g.J.Log.content l.initial.log;
  fine : g.J.Log.faults l.log ≡ g.J.Log.faults l.initial.log;
}

abbrev pub decreases-loop-taken : goal.decreases-loop-taken
decreases-loop-taken g l = l.budget - l.taken
