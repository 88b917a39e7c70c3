-- Queries over the series of a key.
use Rattle.std.proofs.Common.{◌≡◌, ◌+◌, ◌*◌, ◌≤◌, ℕ, Bool, arith}
use Rattle.ts_spec.specs.Answer.{answer}
use Rattle.ts_spec.specs.Key.{Key}
use Rattle.ts_spec.specs.StoredQueries.{stored_asked}
use Rattle.ts_range.specs.declared.query.Query.{Query}
use Rattle.ts_range.specs.Query.{query_of}
use Rattle.ts_series.specs.Seams.{IsSeamed, Around}
use Rattle.ts_db.specs.Bounds.{walk_steps}
use Rattle.ts_db.specs.DbState.{DbView}
use Rattle.ts_questions.specs.Asking.{queried_key, queried_pieces, queried_reach, queried_answer}
use Rattle.ts_questions.specs.Bounds.{series_query_steps}
use Rattle.ts_questions.specs.declared.series_query.SeriesQuery.{SeriesQuery}
use Rattle.ts_questions.proofs.WalkBounds.{few-around}

module _ (series_query : SeriesQuery) (db_view : DbView) (latest : Bool) (query : Query) (key : Key)
    (db : series_query.db.now ≡ db_view) (shows : series_query.latest ≡ latest) (asked : series_query.query.now ≡ query) (is : queried_key series_query ≡ key) where
  -- its answer is that of the key
  pub answer-of : queried_answer series_query ≡ answer db_view.limits.empty_rows (query_of query) (stored_asked db_view.keys latest key)
  answer-of = λ i. answer (db i).limits.empty_rows (query_of (asked i)) (stored_asked (db i).keys (shows i) (is i))

  -- and so are the steps that it may take
  pub steps-of : series_query_steps series_query.db.now (queried_key series_query) series_query.query.now.from series_query.query.now.to ≡ series_query_steps db_view key query.from query.to
  steps-of = λ i. series_query_steps (db i) (is i) (asked i).from (asked i).to

-- a walk takes no more steps than a question may
pub within-series_query : (q : SeriesQuery) (beside old settled new : ℕ) → Around q.query.now.from q.query.now.to (walk_steps q.db.now (queried_key q) q.query.now.from q.query.now.to) (queried_pieces q)
    → settled + beside ≤ old + 3 * queried_reach q → IsSeamed (queried_pieces q) q.query.now.from q.query.now.to (settled + beside) new
    → new ≤ old + series_query_steps q.db.now (queried_key q) q.query.now.from q.query.now.to
within-series_query q beside old settled new around few is =
    let from = q.query.now.from in
    let to = q.query.now.to in
    let at = few-around (queried_pieces q) from to (walk_steps q.db.now (queried_key q) from to) (settled + beside) new around is in
    omega (arith, at, few)
