-- A query over one series: its samples, its rows, and its row plan.
use Rattle.std.specs.Prelude.{◌≡◌, ℕ, ◌*◌, ◌<◌, false, List, [], filter, Option, None, Some, option_map}
use Rattle.ts_spec.specs.Answer.{Row, answer, passes_filters, rows, includes_empty}
use Rattle.ts_spec.specs.Key.{Key}
use Rattle.ts_spec.specs.StoredQueries.{stored_asked}
use Rattle.ts_spec.specs.Sample.{Point, between}
use Rattle.ts_range.specs.declared.query.Query.{Query}
use Rattle.ts_range.specs.Query.{buckets_of, query_of}
use Rattle.ts_range.specs.BucketRanges.{IsBucketRangeIn}
use Rattle.ts_range.specs.RowScanState.{rows_passing}
use Rattle.ts_db.specs.Faults.{key_of_id}
use Rattle.ts_db.specs.DbState.{chunk_samples_at, reach_at}
use Rattle.ts_questions.specs.declared.series_query.SeriesQuery.{SeriesQuery}
use Rattle.ts_questions.specs.declared.row_plans.RowPlan.{RowPlan}
use Rattle.ts_questions.specs.declared.row_plans.RowPlan.TheVariants.{Samples, Buckets, Nothing}

-- the key of the series
abbrev pub queried_key : SeriesQuery → Key
queried_key q = key_of_id q.db.now.ids q.id

-- its samples, with LATEST also that of its open bucket
abbrev pub queried_samples : SeriesQuery → List Point
queried_samples q = stored_asked q.db.now.keys q.latest (queried_key q)

-- the samples of each of its chunks, and the greatest number of samples in one chunk
abbrev pub queried_pieces : SeriesQuery → List (List Point)
queried_pieces q = chunk_samples_at q.db.now (queried_key q)

abbrev pub queried_reach : SeriesQuery → ℕ
queried_reach q = reach_at q.db.now (queried_key q)

-- the rows of the query, and the same unless they are too many
abbrev pub queried_rows : SeriesQuery → List Row
queried_rows q = rows (query_of q.query.now) (queried_samples q)

abbrev pub queried_answer : SeriesQuery → Option (List Row)
queried_answer q = answer q.db.now.limits.empty_rows (query_of q.query.now) (queried_samples q)

-- the rows of the samples between two times, oldest first: one for each that passes the filters, or for each bucket
abbrev pub rows_in : Query → List Point → (from to : ℕ) → List Row
rows_in q ps from to = rows_passing (option_map buckets_of q.buckets) ps (filter (passes_filters (query_of q)) (between from to ps))

-- the plan produces the rows of the query over these samples
abbrev pub IsRowPlan : Query → List Point → RowPlan → Type 0
IsRowPlan q ps Samples = includes_empty (query_of q).buckets ≡ false
IsRowPlan q ps (Buckets bucket_range) = IsBucketRangeIn q ps bucket_range
IsRowPlan q ps Nothing = rows (query_of q) ps ≡ []

-- the steps of a plan beside those of a scan over the interval
abbrev pub steps_beside : SeriesQuery → RowPlan → ℕ
steps_beside q Samples = 3 * queried_reach q
steps_beside q (Buckets bucket_range) = 2 * queried_reach q
steps_beside q Nothing = 0

-- the query is a plain scan for the first n samples, fewer than a chunk may hold, without LATEST
pub record IsFew (q : SeriesQuery) (n : ℕ) : Type 0 where
  pub count : q.query.now.count ≡ Some n
  pub own : q.latest ≡ false
  pub times : q.query.now.times ≡ None
  pub values : q.query.now.values ≡ None
  pub buckets : q.query.now.buckets ≡ None
  pub fewer : n < queried_reach q
