-- GROUPBY: replies over many series, one for each value of a label.
use Rattle.std.specs.Prelude.{ℕ, Bool, false, ◌==◌, nat_lt, if◌then◌else◌, List, [], ◌∷◌, ◌++◌, map, filter, flat_map, codes, Option, Some, None, is_some, option_map}
use Rattle.ts_spec.specs.declared.limits.Limits.{Limits}
use Rattle.ts_spec.specs.declared.bucket.Reducer.{Reducer}
use Rattle.ts_spec.specs.Sample.{Point}
use Rattle.ts_spec.specs.Aggregate.{aggregate, aggregator_of}
use Rattle.ts_spec.specs.Key.{Key, same, is_before}
use Rattle.ts_spec.specs.Keyed.{get}
use Rattle.ts_spec.specs.State.{Label, State}
use Rattle.ts_spec.specs.Filter.{value_of}
use Rattle.ts_spec.specs.Command.{Query, Show, GroupBy}
use Rattle.ts_spec.specs.Answer.{Cell, Number, Nan, Row, in_requested_order, limit_rows, answer}
use Rattle.ts_spec.specs.Response.{Member, Response}
use Rattle.ts_spec.specs.Queries.{asked, labels_shown, labels_at, members_of, members_response}
use Rattle.ts_spec.specs.Replies.{aggregator_name}

-- a series with its labels, and the rows that a query has from it
pub record Labelled : Type 0 where
  pub key : Key
  pub labels : List Label
  pub rows : List Row

-- ---- the values of a label

-- inserts a value into ascending values without duplicates
abbrev pub with_value : List ℕ → List (List ℕ) → List (List ℕ)
with_value v [] = v ∷ []
with_value v (w ∷ ws) = if is_before v w then v ∷ w ∷ ws else (if same v w then w ∷ ws else w ∷ with_value v ws)

-- the same for the value of a label that a series may lack
abbrev pub with_value_of : Option (List ℕ) → List (List ℕ) → List (List ℕ)
with_value_of None vs = vs
with_value_of (Some v) vs = with_value v vs

-- the values that the series have for the label, ascending and without duplicates
abbrev pub values : (label : List ℕ) → List Labelled → List (List ℕ)
values label [] = []
values label (m ∷ ms) = with_value_of (value_of label m.labels) (values label ms)

-- whether the value is this one
abbrev pub is_value : List ℕ → Option (List ℕ) → Bool
is_value v None = false
is_value v (Some w) = same v w

-- the series with this value of the label, in their order
abbrev pub having : (label value : List ℕ) → List Labelled → List Labelled
having label value ms = filter (λ m. is_value value (value_of label m.labels)) ms

-- ---- the rows of a group

-- inserts a time into ascending times without duplicates
abbrev pub with_time : ℕ → List ℕ → List ℕ
with_time t [] = t ∷ []
with_time t (u ∷ us) = if nat_lt t u then t ∷ u ∷ us else (if t == u then u ∷ us else u ∷ with_time t us)

-- the times of rows, ascending and without duplicates
abbrev pub times : List Row → List ℕ
times [] = []
times (r ∷ rs) = with_time r.time (times rs)

-- prepends the value of a row, unless it is NaN
abbrev pub number_then : ℕ → Cell → List Point → List Point
number_then t Nan others = others
number_then t (Number v) others = record { time = t; value = v; made = 0 } ∷ others

-- the values that rows have at this time, in their order
abbrev pub numbers_at : ℕ → List Row → List Point
numbers_at t [] = []
numbers_at t (r ∷ rs) = if r.time == t then number_then t r.value (numbers_at t rs) else numbers_at t rs

-- the result of a reducer, or NaN for no values
abbrev pub reduced : Reducer → List Point → Cell
reduced reducer [] = Nan
reduced reducer (p ∷ ps) = Number (aggregate (aggregator_of reducer) (p ∷ ps))

-- the row of a time
abbrev pub reduced_row : Reducer → List Row → ℕ → Row
reduced_row reducer rows t = record { time = t; value = reduced reducer (numbers_at t rows) }

-- one row for each time of the given rows, in ascending order
abbrev pub reduced_rows : Reducer → List Row → List Row
reduced_rows reducer rows = map (reduced_row reducer rows) (times rows)

-- ---- groups

-- the keys of series, separated by commas
abbrev pub sources : List Labelled → List ℕ
sources [] = []
sources (m ∷ []) = m.key
sources (m ∷ n ∷ ms) = m.key ++ codes "," ++ sources (n ∷ ms)

-- the labels of a group: its own, `__reducer__` and `__source__`
abbrev pub group_labels : GroupBy → (value : List ℕ) → List Labelled → List Label
group_labels by value ms =
    record { name = by.label; value = value }
    ∷ record { name = codes "__reducer__"; value = aggregator_name (aggregator_of by.reducer) }
    ∷ record { name = codes "__source__"; value = sources ms }
    ∷ []

-- the group of one value of the label, with its rows in the requested order and cut to COUNT
abbrev pub group : GroupBy → Show → (count : Option ℕ) → (reverse : Bool) → (value : List ℕ) → List Labelled → Member
group by show count reverse value ms = record {
  key = by.label ++ codes "=" ++ value;
  labels = labels_shown show (group_labels by value ms);
  rows = limit_rows count (in_requested_order reverse (reduced_rows by.reducer (flat_map (λ m. m.rows) ms)));
}

-- The groups of series, in ascending order of their values. Series without the label are left out.
abbrev pub groups : GroupBy → Show → (count : Option ℕ) → (reverse : Bool) → List Labelled → List Member
groups by show count reverse ms = map (λ value. group by show count reverse value (having by.label value ms)) (values by.label ms)

-- ---- the series of a query

-- the keys that have the label
abbrev pub labelled_keys : (label : List ℕ) → (labels : Key → List Label) → List Key → List Key
labelled_keys label labels ks = filter (λ k. is_some (value_of label (labels k))) ks

-- prepends a series, unless it has too many rows
abbrev pub labelled_then : Key → List Label → Option (List Row) → Option (List Labelled) → Option (List Labelled)
labelled_then k labels None others = None
labelled_then k labels (Some rows) None = None
labelled_then k labels (Some rows) (Some others) = Some (record { key = k; labels = labels; rows = rows } ∷ others)

-- the series at these keys, or `None` if one of them has too many rows
abbrev pub labelled : (labels : Key → List Label) → (rows : Key → Option (List Row)) → List Key → Option (List Labelled)
labelled labels rows [] = Some []
labelled labels rows (k ∷ ks) = labelled_then k (labels k) (rows k) (labelled labels rows ks)

-- a query without its row limit
abbrev pub uncounted : Query → Query
uncounted q = record q { count = None }

-- The response in groups, for keys with these labels and rows. Only series that have the label can have too many
-- rows.
abbrev pub grouped_response : GroupBy → Show → Query → (labels : Key → List Label) → (rows : Key → Option (List Row)) → List Key → Response
grouped_response by show q labels rows ks =
    members_response (option_map (groups by show q.count q.reverse) (labelled labels rows (labelled_keys by.label labels ks)))

-- TS.MRANGE and TS.MREVRANGE over these keys, series by series or in groups
abbrev pub ranges_response : Limits → State → (with_open : Bool) → Show → Query → Option GroupBy → List Key → Response
ranges_response limits m with_open show q None ks = members_response (members_of limits m with_open show q ks)
ranges_response limits m with_open show q (Some by) ks =
    grouped_response by show q (λ k. labels_at (get k m)) (λ k. answer limits.empty_rows (uncounted q) (asked m with_open k)) ks
