use Rattle.std.proofs.Common.{◌≡◌, map, take}
use Rattle.std.specs.Prelude.{Ok}
use Rattle.ts_restore.specs.Checkpoint.{parts_from}
use Rattle.ts_checkpoint.specs.Parts.{Rule}
use Rattle.ts_db.specs.Faults.{key_of_id}
use Rattle.ts_rules.specs.Rules.{stored_rule_for}
use Rattle.ts_execution.specs.Checkpoints.{Written, OnlyDrafts, log_state}
use Rattle.ts_execution.proofs.checkpoint_records.RecordWriter.write_rules.Given as goal

abbrev pub invariant-loop-rule : goal.invariant-loop-rule
invariant-loop-rule g l = record {
  written : Written l.initial.self.limits (g.J.Log.drafted l.initial.log) (g.J.Log.drafted l.log) (map Rule (parts_from l.source (map (λ r. stored_rule_for (key_of_id l.db.ids r.dest) r) (take l.rule-index l.rule-items))));
  drafts : OnlyDrafts (log_state g.J.Log.content g.J.Log.place g.J.Log.faults l.initial.log) (log_state g.J.Log.content g.J.Log.place g.J.Log.faults l.log) (Ok tt);
  limits : l.self.limits ≡ l.initial.self.limits;
}
