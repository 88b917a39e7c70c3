use Rattle.ts_restore.specs.Summaries.{summary_of}
use Rattle.ts_agg.proofs.Restoring.{HasUnits, restored_small}
use Rattle.ts_agg.proofs.running.Running.restored.Goals as goal

pub invariant_of-result : goal.invariant_of-result
invariant_of-result c =
    let k = c.known.ensures in
    let units : HasUnits (summary_of c.args.parts) = record { least = k.least; greatest = k.greatest; first = k.first; last = k.last } in
    restored_small (summary_of c.args.parts) units (c.is_summary.ensures.0 c.if-not-is_summary.false)
