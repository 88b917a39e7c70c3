-- A rule counts no more samples than its bucket lasts milliseconds.
use Rattle.std.proofs.Common.{ℕ, ◌+◌, ◌<◌, ◌≤◌, [], Some, refl, sym, subst, arith}
use Rattle.std.specs.Prelude.{Option, None}
use Rattle.ts_spec.specs.declared.limits.Limits.{Limits}
use Rattle.ts_spec.specs.Bucket.{Grid, start}
use Rattle.ts_spec.specs.StoredSeries.{StoredRule, StoredSeries, StoredKeys}
use Rattle.ts_bucket.specs.Grid.{IsGrid}
use Rattle.ts_bucket.proofs.Numbers.{start_number, passed}
use Rattle.ts_restore.specs.Checkpoint.{RulePart}
use Rattle.ts_restore.specs.Restorable.{IsBucket, IsNewRule}
use Rattle.ts_restore.specs.Restored.{top_at}
use Rattle.ts_restore.specs.Summaries.{IsShortSummary}

-- a time is less than a duration past the start of its bucket
near-start : (g : Grid) (t : ℕ) → 1 ≤ g.duration → t < start g t + g.duration
near-start g t some = omega (arith, start_number g some t, passed g some t)

short-in : (s : StoredSeries) (q : StoredRule) (o : Option ℕ) → IsGrid q.grid → IsBucket s q o → IsShortSummary q.running
short-in s q None grid h = subst IsShortSummary (sym h.running) (record { few = omega arith; some = ([], refl) })
short-in s q (Some b) grid h = record {
  few = omega (arith, near-start q.grid (top_at q b s.list) grid.some, h.same, grid.short);
  some = h.running;
}

pub short-summary : (limits : Limits) (keys : StoredKeys) (p : RulePart) → IsNewRule limits keys p → IsGrid p.rule.grid → IsShortSummary p.rule.running
short-summary limits keys p h grid = short-in h.source p.rule p.rule.current grid h.rule.bucket
