use Rattle.std.proofs.Common.{◌≡◌, take}
use Rattle.std.specs.Prelude.{Ok}
use Rattle.ts_execution.specs.Checkpoints.{WrittenSeries, OnlyDrafts, log_state}
use Rattle.ts_execution.proofs.checkpoint_records.RecordWriter.write_all_series.Given as goal

abbrev pub invariant-loop-id : goal.invariant-loop-id
invariant-loop-id g l = record {
  written : WrittenSeries l.initial.self.limits l.db (take l.id-index l.db.keys.entries) (g.J.Log.drafted l.initial.log) (g.J.Log.drafted l.log);
  drafts : OnlyDrafts (log_state g.J.Log.content g.J.Log.place g.J.Log.faults l.initial.log) (log_state g.J.Log.content g.J.Log.place g.J.Log.faults l.log) (Ok tt);
  limits : l.self.limits ≡ l.initial.self.limits;
}
