use Rattle.std.proofs.Common.{◌≤◌, map}
use Rattle.ts_range.specs.Query.{row_of}
use Rattle.ts_questions.specs.Asking.{queried_samples, queried_pieces, queried_reach, rows_in}
use Rattle.ts_questions.proofs.RowsSplit.{AreFound}
use Rattle.ts_questions.proofs.WalkBounds.{GoesOn}
use Rattle.ts_questions.proofs.reversed_samples.last_rows.Given as goal

-- what was found, and what is left, have the rows that are wanted; and no more was decoded than once, and a chunk for
-- each share
abbrev pub invariant-loop-found : goal.invariant-loop-found
invariant-loop-found g l = record {
  inside : (l.from ≤ l.end) × (l.end ≤ l.series_query.query.now.to);
  few : l.scan_batches ≤ 3;
  found : AreFound l.count (map row_of l.found.items) (rows_in l.series_query.query.now (queried_samples l.series_query) l.from l.end) (rows_in l.series_query.query.now (queried_samples l.series_query) l.from l.series_query.query.now.to);
  seams : GoesOn (queried_pieces l.series_query) (queried_reach l.series_query) l.from l.series_query.query.now.to l.end l.scan_batches l.fn.steps l.steps;
}

abbrev pub decreases-loop-found : goal.decreases-loop-found
decreases-loop-found g l = l.end
