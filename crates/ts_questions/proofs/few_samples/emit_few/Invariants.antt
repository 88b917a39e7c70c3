use Rattle.std.proofs.Common.{◌+◌, ◌≤◌}
use Rattle.ts_questions.specs.Asking.{queried_reach, queried_rows}
use Rattle.ts_questions.proofs.FewRead.{Reads}
use Rattle.ts_questions.proofs.few_samples.emit_few.Given as goal

-- the rows of the samples before were handed on, each of which is decoded once
abbrev pub invariant-loop-left : goal.invariant-loop-left
invariant-loop-left g l = record {
  reads : Reads (g.T.RowSink.has l.row_sink) (queried_rows l.series_query) l.to l.left l.samples;
  few : l.steps + l.left ≤ l.fn.steps + queried_reach l.series_query + l.count;
}

abbrev pub decreases-loop-left : goal.decreases-loop-left
decreases-loop-left g l = l.left
