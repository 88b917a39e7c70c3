use Rattle.ts_spec.specs.Sample.{between}
use Rattle.ts_range.proofs.Shown.{line-emitted}
use Rattle.ts_questions.specs.Asking.{queried_samples}
use Rattle.ts_questions.proofs.gap_filled.shown.Goals as goal

pub returns-clause-rows : goal.returns-clause-rows
returns-clause-rows g c =
    line-emitted (g.T.RowSink.has c.finish.result) c.args.line c.visit.new.visit (between c.args.from c.args.to (queried_samples c.args.series_query.now)) c.requires.none c.visit.ensures.visited c.finish.ensures
