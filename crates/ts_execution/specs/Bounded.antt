-- How many steps a command takes at most.
use Rattle.std.specs.Prelude.{ℕ, ◌+◌, ◌*◌, ◌≤◌, ⊤}
use Rattle.ts_spec.specs.Command.{Command, Alter, Add, Incr, Madd, DelRange, Range, MRange, MGet, QueryIndex, InfoOf}
use Rattle.ts_spec.specs.Outcome.{time_of}
use Rattle.ts_db.specs.Bounds.{write_steps, deletion_steps, selection_steps}
use Rattle.ts_db.specs.DbState.{DbView, reach_at}
use Rattle.ts_questions.specs.Bounds.{series_query_steps, members_steps}

-- The bound for each command: that of its change or query, and no step if it reads no sample. TS.MADD has no bound
-- here: each of its writes is bounded on the database that it finds.
abbrev pub IsBounded : DbView → (reading : ℕ) → Command → (old new : ℕ) → Type 0
IsBounded db_view reading (Alter key change) old new = new ≤ old + 2 * reach_at db_view key
IsBounded db_view reading (Add key at value on spec) old new = new ≤ old + write_steps db_view key (time_of reading at)
IsBounded db_view reading (Incr key change at spec) old new = new ≤ old + write_steps db_view key (time_of reading at)
IsBounded db_view reading (Madd triples) old new = ⊤
IsBounded db_view reading (DelRange key from to) old new = new ≤ old + deletion_steps db_view key from to
IsBounded db_view reading (Range key latest query) old new = new ≤ old + series_query_steps db_view key query.from query.to
IsBounded db_view reading (MRange latest show filters query group) old new = new ≤ old + members_steps db_view filters query.from query.to
IsBounded db_view reading (MGet latest show filters) old new = new ≤ old + selection_steps db_view filters
IsBounded db_view reading (QueryIndex filters) old new = new ≤ old + selection_steps db_view filters
IsBounded db_view reading (InfoOf key) old new = new ≤ old + 2 * reach_at db_view key
IsBounded db_view reading other old new = new ≤ old
