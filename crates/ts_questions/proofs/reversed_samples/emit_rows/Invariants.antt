use Rattle.std.proofs.Common.{List, ◌++◌, map, take}
use Rattle.ts_spec.specs.Answer.{Row}
use Rattle.ts_range.specs.Query.{row_of}
use Rattle.ts_questions.proofs.reversed_samples.emit_rows.Given as goal

-- those before the one at hand were handed on
abbrev pub invariant-loop-row : goal.invariant-loop-row
invariant-loop-row g l = (before : List Row) → g.T.RowSink.has l.fn.row_sink before → g.T.RowSink.has l.row_sink (before ++ map row_of (take l.row-index l.rows))
