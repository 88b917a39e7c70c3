use Rattle.std.proofs.Common.{◌≡◌, map, take}
use Rattle.std.specs.Prelude.{Ok}
use Rattle.ts_restore.specs.Checkpoint.{rule_parts}
use Rattle.ts_checkpoint.specs.Parts.{Rule}
use Rattle.ts_execution.specs.Checkpoints.{Written, OnlyDrafts, log_state}
use Rattle.ts_execution.proofs.checkpoint_records.RecordWriter.write_all_rules.Given as goal

abbrev pub invariant-loop-id : goal.invariant-loop-id
invariant-loop-id g l = record {
  written : Written l.initial.self.limits (g.J.Log.drafted l.initial.log) (g.J.Log.drafted l.log) (map Rule (rule_parts (take l.id-index l.db.keys.entries)));
  drafts : OnlyDrafts (log_state g.J.Log.content g.J.Log.place g.J.Log.faults l.initial.log) (log_state g.J.Log.content g.J.Log.place g.J.Log.faults l.log) (Ok tt);
  limits : l.self.limits ≡ l.initial.self.limits;
}
