use Rattle.std.proofs.Common.{◌≡◌, ◌≤◌, ◌-◌}
use Rattle.ts_spec.specs.Sample.{between}
use Rattle.ts_range.specs.RowScanState.{lets}
use Rattle.ts_series.specs.Seams.{IsSeamed}
use Rattle.ts_questions.specs.Asking.{queried_samples, queried_pieces}
use Rattle.ts_questions.proofs.InShares.{IsSoFar}
use Rattle.ts_questions.proofs.WalkBounds.{AreSeamedUpto}
use Rattle.ts_questions.proofs.walked.scan_in_batches.Given as goal

-- what the walk has seen, and what is left, tell all rows; and no chunk is decoded for two shares
abbrev pub invariant-loop-start : goal.invariant-loop-start
invariant-loop-start g l = record {
  same : l.walk ≡ record l.fn.walk { seen = l.walk.seen };
  so_far : IsSoFar (lets l.fn.walk) l.walk.seen (between l.from l.to (queried_samples l.series_query)) (between l.fn.from l.fn.to (queried_samples l.series_query));
  inside : l.to ≤ l.fn.to;
  upto : AreSeamedUpto (queried_pieces l.series_query) l.fn.from l.from l.fn.steps l.steps;
  seams : IsSeamed (queried_pieces l.series_query) l.fn.from l.fn.to l.fn.steps l.steps;
}

abbrev pub decreases-loop-start : goal.decreases-loop-start
decreases-loop-start g l = l.to - l.from
