use Rattle.std.proofs.Common.{◌≡◌, map, take}
use Rattle.std.specs.Prelude.{Ok}
use Rattle.ts_checkpoint.specs.Restoring.{chunk_part}
use Rattle.ts_execution.specs.Checkpoints.{Written, chunks_from, OnlyDrafts, log_state}
use Rattle.ts_execution.proofs.checkpoint_records.RecordWriter.write_chunks.Given as goal

abbrev pub invariant-loop-index : goal.invariant-loop-index
invariant-loop-index g l = record {
  written : Written l.initial.self.limits (g.J.Log.drafted l.initial.log) (g.J.Log.drafted l.log) (map chunk_part (take l.index (chunks_from l.series.held.pieces l.series.held.limits)));
  drafts : OnlyDrafts (log_state g.J.Log.content g.J.Log.place g.J.Log.faults l.initial.log) (log_state g.J.Log.content g.J.Log.place g.J.Log.faults l.log) (Ok tt);
  limits : l.self.limits ≡ l.initial.self.limits;
}
