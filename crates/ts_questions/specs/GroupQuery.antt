-- Queries with GROUPBY, series by series.
use Rattle.std.specs.Prelude.{◌≡◌, ◌++◌, ℕ, Bool, is_none, is_some, if◌then◌else◌, List, [], ◌∷◌, map, sum_by, Option, None, Some, option_map}
use Rattle.std.specs.Option.{ForSome}
use Rattle.ts_spec.specs.Key.{Key}
use Rattle.ts_spec.specs.Keyed.{Keyed, get}
use Rattle.ts_spec.specs.Command.{Query}
use Rattle.ts_spec.specs.Filter.{Filter, value_of, selection}
use Rattle.ts_spec.specs.Answer.{Row, answer, passes_filters}
use Rattle.ts_spec.specs.Sample.{Point}
use Rattle.ts_spec.specs.Response.{Response}
use Rattle.ts_spec.specs.Groups.{Labelled, group, ranges_response}
use Rattle.ts_spec.specs.Replies.{member_reply}
use Rattle.ts_spec.specs.Text.{Reply}
use Rattle.ts_spec.specs.StoredQueries.{stored_asked, stored_labels_at, stored_ranges_response}
use Rattle.ts_labels.specs.Show.{show_of}
use Rattle.ts_range.specs.Filters.{passes}
use Rattle.ts_range.specs.Query.{query_of}
use Rattle.ts_sample.specs.declared.sample.Id.{Id}
use Rattle.ts_command.specs.GroupBy.{group_of}
use Rattle.ts_group.specs.Grouped.{grouped}
use Rattle.ts_group.specs.Sorted.{having_of, values_of}
use Rattle.ts_group.specs.declared.one_group.Group.{Group}
use Rattle.ts_db.specs.Faults.{key_of_id}
use Rattle.ts_db.specs.DbState.{DbState, DbView}
use Rattle.ts_questions.specs.Bounds.{series_query_steps}
use Rattle.ts_questions.specs.declared.group_query.GroupQuery.{GroupQuery}

-- the query has no row limit, and its prepared filters, if there was memory for them, match it
pub record IsGroupQuery (g : GroupQuery) : Type 0 where
  pub all : g.query.count ≡ None
  pub lets : ForSome g.filters (λ f. (p : Point) → passes f p ≡ passes_filters (query_of g.query) p)

-- the query, with the row limit of each group
abbrev pub counted : GroupQuery → Query
counted g = record (query_of g.query) { count = g.count }

-- whether the series has the label
abbrev pub has_label : DbView → (label : List ℕ) → Key → Bool
has_label db_view label k = is_some (value_of label (stored_labels_at (get k db_view.keys)))

-- a list of one series
abbrev pub alone : Labelled → List Labelled
alone m = m ∷ []

-- the series themselves
abbrev pub themselves : List Labelled → List Labelled
themselves ms = ms

-- a key with its labels and rows, unless these are too many
abbrev pub series_at : DbView → (latest : Bool) → Query → Key → Option Labelled
series_at db_view latest q k =
    option_map (λ rows. record { key = k; labels = stored_labels_at (get k db_view.keys); rows = rows }) (answer db_view.limits.empty_rows q (stored_asked db_view.keys latest k))

-- what a key adds to the groups: itself if it has the label, else nothing
abbrev pub grouped_series_at : DbView → GroupQuery → Key → Option (List Labelled)
grouped_series_at db_view g k = if has_label db_view g.by.label k then option_map alone (series_at db_view g.latest (query_of g.query) k) else Some []

-- whether its rows are too many
abbrev pub is_group_refused : GroupQuery → DbView → Key → Bool
is_group_refused g db_view k = is_none (grouped_series_at db_view g k)

-- a series without the label takes no step
abbrev pub group_steps : GroupQuery → DbView → Key → ℕ
group_steps g db_view k = if has_label db_view g.by.label k then series_query_steps db_view k g.query.from g.query.to else 0

-- ---- by series ids

-- the id belongs to exactly one key
pub record IsIdOfOneKey (ids : Keyed Id) (n : Id) : Type 0 where
  pub is : get (key_of_id ids n) ids ≡ Some n
  pub one : (k : Key) → get k ids ≡ Some n → key_of_id ids n ≡ k

-- the rows of a series, unless they are too many
abbrev pub rows_at_id : DbView → GroupQuery → Id → Option (List Row)
rows_at_id db_view g n = answer db_view.limits.empty_rows (query_of g.query) (stored_asked db_view.keys g.latest (key_of_id db_view.ids n))

-- the rows, or none if they are too many
abbrev pub rows_or_none : Option (List Row) → List Row
rows_or_none None = []
rows_or_none (Some rows) = rows

-- the key of a series, with its labels and rows
abbrev pub numbered : DbView → GroupQuery → Id → Labelled
numbered db_view g n = record {
  key = key_of_id db_view.ids n;
  labels = stored_labels_at (get (key_of_id db_view.ids n) db_view.keys);
  rows = rows_or_none (rows_at_id db_view g n);
}

-- whether its rows are too many
abbrev pub is_too_long : DbView → GroupQuery → Id → Bool
is_too_long db_view g n = is_none (rows_at_id db_view g n)

-- the most steps that its rows take
abbrev pub id_steps : DbView → GroupQuery → Id → ℕ
id_steps db_view g n = series_query_steps db_view (key_of_id db_view.ids n) g.query.from g.query.to

-- these series were added to a group
abbrev pub AreAddedTo : DbView → GroupQuery → List Id → (old new : Group) → Type 0
AreAddedTo db_view g ns old new = (ms : List Labelled) → old ≡ grouped ms → new ≡ grouped (ms ++ map (numbered db_view g) ns)

-- the reply for the group of a value, which has these series
abbrev pub group_reply : DbView → GroupQuery → (value : List ℕ) → List Id → Reply
group_reply db_view g value ns = member_reply (group (group_of g.by) (show_of g.show) g.count g.query.reverse value (map (numbered db_view g) ns))

-- 1 or 0
abbrev pub one_if : Bool → ℕ
one_if b = if b then 1 else 0

-- how many of these series have the label and too many rows
abbrev pub refusals : DbView → GroupQuery → List Id → ℕ
refusals db_view g ns = sum_by (λ n. if has_label db_view g.by.label (key_of_id db_view.ids n) then one_if (is_too_long db_view g n) else 0) ns

-- the most steps that the series with the label take
abbrev pub ids_steps : DbView → GroupQuery → List Id → ℕ
ids_steps db_view g ns = sum_by (λ n. if has_label db_view g.by.label (key_of_id db_view.ids n) then id_steps db_view g n else 0) ns

-- the groups of these series
abbrev pub groups_of_ids : DbView → GroupQuery → List Id → List Reply
groups_of_ids db_view g ns =
    map (λ v. group_reply db_view g v (having_of (numbered db_view g) g.by.label v ns)) (values_of (numbered db_view g) g.by.label ns)

-- the response over these keys, from the stored data
abbrev pub stored_groups : DbView → GroupQuery → List Key → Response
stored_groups db_view g ks = stored_ranges_response db_view.limits db_view.keys g.latest (show_of g.show) (counted g) (Some (group_of g.by)) ks

-- the response over the series that match the filters
abbrev pub groups_response : DbState → GroupQuery → List Filter → Response
groups_response from g fs = ranges_response from.limits from.state g.latest (show_of g.show) (counted g) (Some (group_of g.by)) (selection from.state fs)
