use Rattle.std.proofs.Common.{◌≡◌, ap, ◌∙◌}
use Rattle.std.specs.Prelude.{◌&&◌, length, nat_lt}
use Rattle.ts_spec.specs.declared.limits.Limits.{Limits}
use Rattle.ts_spec.specs.Answer.{rows, includes_empty}
use Rattle.ts_range.specs.Query.{query_of}
use Rattle.ts_range.proofs.AllRows.{no-rows}
use Rattle.ts_questions.specs.Asking.{queried_samples, queried_rows}
use Rattle.ts_questions.proofs.Finding.{ends_are}
use Rattle.ts_questions.proofs.row_plans.gap_filled_row_plan.Goals as goal
use Rattle.ts_questions.proofs.row_plans.gap_filled_row_plan.Goals.{After-are_too_many}

-- whether the rows are too many is what was found
module _ (g : _) (c : After-are_too_many g) where
  settled : c.are_too_many.result ≡ (includes_empty (query_of c.args.series_query.now.query.now).buckets && nat_lt c.args.series_query.now.db.now.limits.empty_rows (length (queried_rows c.args.series_query.now)))
  settled =
      let q = query_of c.args.series_query.now.query.now in
      let all = queried_samples c.args.series_query.now in
      c.are_too_many.ensures all (λ told. c.ends-ends.ensures.ends ∙ ends_are all)
      ∙ ap (λ (l : Limits). includes_empty q.buckets && nat_lt l.empty_rows (length (rows q all))) c.limits.ensures.limits

pub returns-in-None-clause-plan : goal.returns-in-None-clause-plan
returns-in-None-clause-plan g c =
    let series_query = c.args.series_query.now in
    no-rows series_query.query.now c.args.buckets.now c.requires (queried_samples series_query) c.ends-ends.result (c.ends-ends.ensures.ends ∙ ends_are (queried_samples series_query)) c.in-None.ensures.none
