use Rattle.std.proofs.Common.{◌≡◌, ◌-◌, ◌^◌, take}
use Rattle.std.specs.Prelude.{min}
use Rattle.ts_execution.specs.Checkpoints.{record_total}
use Rattle.ts_execution.proofs.checkpoint.count_records.Given as goal

abbrev pub invariant-loop-id : goal.invariant-loop-id
invariant-loop-id l = l.records ≡ min (record_total l.db (take l.id-index l.db.keys.entries)) (2 ^ 64 - 1)
