use Rattle.std.proofs.Common.{◌<◌, ◌^◌, arith, rules}
use Rattle.ts_questions.specs.Asking.{queried_key}
use Rattle.ts_questions.proofs.Few.{few_kept}
use Rattle.ts_questions.proofs.Finding.{kept_ascending}
use Rattle.ts_questions.proofs.series_query.SeriesQuery.known.Goals as goal

pub returns-clause-rising : goal.returns-clause-rising
returns-clause-rising c =
    let series_query = c.args.self.now in
    kept_ascending series_query.db.now c.limits-samples.ensures.stands series_query.latest (queried_key series_query)

pub returns-clause-few : goal.returns-clause-few
returns-clause-few c =
    let series_query = c.args.self.now in
    let most : series_query.db.now.limits.samples < 2 ^ 32 = search rules in
    omega (arith, few_kept series_query.db.now c.limits-samples.ensures.stands series_query.latest (queried_key series_query), most)
