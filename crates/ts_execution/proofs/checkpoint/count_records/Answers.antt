use Rattle.std.proofs.Common.{◌-◌, ◌^◌, ap, arith}
use Rattle.ts_execution.specs.Checkpoints.{record_total}
use Rattle.ts_execution.proofs.StoredEntries.{next-entry, all-entries, live-entry, total-next}
use Rattle.ts_execution.proofs.checkpoint.count_records.Goals as goal

pub records_of-requires : goal.records_of-requires
records_of-requires c =
    let db = c.args.db.now in
    live-entry db db.keys.entries c.loop-id.id-index _ (next-entry db c.args.ids.now c.loop-id.id-index (record { 0 = 0 }) c.requires (omega arith))

pub loop-id-preserved : goal.loop-id-preserved
loop-id-preserved c =
    let db = c.args.db.now in
    total-next db db.keys.entries c.loop-id.id-index _ c.loop-id.records c.records_of.result c.saturating_add-records.result (2 ^ 64 - 1)
    (next-entry db c.args.ids.now c.loop-id.id-index (record { 0 = 0 }) c.requires (omega arith)) c.loop-id.invariant c.records_of.ensures c.saturating_add-records.ensures

pub returns : goal.returns
returns c =
    let db = c.args.db.now in
    omega (arith, c.loop-id.invariant, ap (record_total db) (all-entries db c.args.ids.now c.loop-id.id-index c.requires (omega arith)))
