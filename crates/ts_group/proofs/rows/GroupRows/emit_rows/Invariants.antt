use Rattle.std.proofs.Common.{◌≡◌, List, ◌++◌, length}
use Rattle.ts_spec.specs.Answer.{Row}
use Rattle.ts_group.proofs.rows.GroupRows.emit_rows.Given as goal

-- those before the ones that are left were handed on
abbrev pub invariant-loop-row : goal.invariant-loop-row
invariant-loop-row g l = record {
  done : List Row;
  all : done ++ l.self ≡ l.initial.self;
  taken : (before : List Row) → g.T.RowSink.has l.fn.row_sink before → g.T.RowSink.has l.row_sink (before ++ done);
  limit : g.T.RowSink.limit l.row_sink ≡ g.T.RowSink.limit l.fn.row_sink;
}

-- a row less is left
abbrev pub decreases-loop-row : goal.decreases-loop-row
decreases-loop-row g l = length l.self
