use Rattle.ts_questions.specs.Asking.{queried_samples, rows_in}
use Rattle.ts_questions.proofs.reversed_samples.rows_between.Goals as goal

pub returns-clause-rows : goal.returns-clause-rows
returns-clause-rows g c = c.into_rows.ensures (rows_in c.args.series_query.now.query.now (queried_samples c.args.series_query.now) c.args.from c.args.to) c.emitted.ensures.rows
