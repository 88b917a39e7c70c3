use Rattle.std.proofs.Common.{◌≤◌}
use Rattle.std.specs.Prelude.{reverse}
use Rattle.ts_questions.specs.Asking.{queried_samples, queried_pieces, queried_rows, rows_in}
use Rattle.ts_questions.proofs.FromBack.{AreHanded, AreSeamedDown}
use Rattle.ts_questions.proofs.reversed_samples.emit_samples_reversed.Given as goal

-- the rows of the later samples were handed on, and no chunk was decoded for two shares
abbrev pub invariant-loop-left : goal.invariant-loop-left
invariant-loop-left g l = record {
  inside : l.from ≤ l.end;
  emitted : AreHanded (g.T.RowSink.has l.row_sink) (queried_rows l.series_query) l.left (reverse (rows_in l.series_query.query.now (queried_samples l.series_query) l.from l.end));
  seams : AreSeamedDown (queried_pieces l.series_query) l.end l.series_query.query.now.to l.fn.steps l.steps;
}

abbrev pub decreases-loop-left : goal.decreases-loop-left
decreases-loop-left g l = l.end
