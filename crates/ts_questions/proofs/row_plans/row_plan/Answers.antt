use Rattle.std.proofs.Common.{refl}
use Rattle.ts_range.specs.Query.{query_of}
use Rattle.ts_range.proofs.Whole.{no-limit, none-filled}
use Rattle.ts_questions.specs.Asking.{queried_samples}
use Rattle.ts_questions.proofs.row_plans.row_plan.Goals as goal

pub returns-in-None-clause-plan : goal.returns-in-None-clause-plan
returns-in-None-clause-plan g c = none-filled c.args.series_query.now.query.now c.in-None.ensures.none c.args.series_query.now.query.now.buckets refl

pub returns-in-None-clause-few : goal.returns-in-None-clause-few
returns-in-None-clause-few g c =
    let series_query = c.args.series_query.now in
    no-limit (query_of series_query.query.now) (queried_samples series_query) series_query.db.now.limits.empty_rows (none-filled series_query.query.now c.in-None.ensures.none series_query.query.now.buckets refl)
