-- The most steps that a query takes, from what contracts see of the database. Decoding a sample is one step, and so is
-- checking the labels of a key against a filter.
use Rattle.std.specs.Prelude.{ℕ, ◌+◌, ◌*◌, if◌then◌else◌, List, length, sum_by}
use Rattle.ts_spec.specs.Filter.{Filter, all_hold}
use Rattle.ts_spec.specs.Key.{Key}
use Rattle.ts_spec.specs.Keyed.{get}
use Rattle.ts_spec.specs.StoredQueries.{stored_labels_at, stored_selection}
use Rattle.ts_db.specs.Bounds.{walk_steps, selection_steps}
use Rattle.ts_db.specs.DbState.{DbView, reach_at}
use Rattle.ts_questions.specs.declared.members.MemberContent.{MemberContent}
use Rattle.ts_questions.specs.declared.members.MemberContent.TheVariants as wanted

-- over one series: the samples in the interval, and five times those of a chunk
abbrev pub series_query_steps : DbView → Key → (from to : ℕ) → ℕ
series_query_steps db_view key from to = walk_steps db_view key from to + 3 * reach_at db_view key

-- over many series: selecting them, and the query over each
abbrev pub members_steps : DbView → List Filter → (from to : ℕ) → ℕ
members_steps db_view filters from to = selection_steps db_view filters + sum_by (λ key. series_query_steps db_view key from to) (stored_selection db_view.keys filters)

-- for one of many series: only the rows of a query take steps
abbrev pub content_steps : DbView → MemberContent → Key → ℕ
content_steps db_view wanted.Key key = 0
content_steps db_view (wanted.Last latest show) key = 0
content_steps db_view (wanted.Rows asked filters) key = series_query_steps db_view key asked.query.from asked.query.to

-- to check whether a key matches filters and then has too many rows, which takes at most `most` steps
abbrev pub tried_steps : DbView → List Filter → (most : Key → ℕ) → Key → ℕ
tried_steps db_view filters most key = length filters + (if all_hold filters (stored_labels_at (get key db_view.keys)) then most key else 0)
