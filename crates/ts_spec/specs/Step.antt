-- One step of the database: the response to a command, and the state after it. If several refusals apply, the first
-- in order is the response. A refused command leaves the state unchanged.
use Rattle.std.specs.Prelude.{ℕ, [], map}
use Rattle.ts_spec.specs.declared.limits.Limits.{Limits}
use Rattle.ts_spec.specs.Sample.{at}
use Rattle.ts_spec.specs.Keyed.{get}
use Rattle.ts_spec.specs.State.{State, change}
use Rattle.ts_spec.specs.Filter.{selection}
use Rattle.ts_spec.specs.Command.{Command, Create, Alter, Add, Madd, Incr, DelRange, CreateRule, DeleteRule, Range, MRange, Get, MGet, QueryIndex, InfoOf, Ping, Echo, Quit, Drop, Exists}
use Rattle.ts_spec.specs.Response.{Done, Count, LastRows, Keys, Word}
pub use Rattle.ts_spec.specs.Making.{fresh, new_key, create, altered, is_longer, alter_at, alter, with_rule, has_rules, ruled, create_rule_at, create_rule, delete_rule_at, delete_rule, drop_keys, count_there}
pub use Rattle.ts_spec.specs.Outcome.{refused, answer_only, time_of, Outcome}
pub use Rattle.ts_spec.specs.Queries.{asked, rows_response, range_response, shown_label, picked_label, labels_shown, labels_at, member, member_then, members_of, members_response, last_row, row_list, last_response, last_member, rule_info, time_or_0, info_of, info_response, ping_response}
pub use Rattle.ts_spec.specs.Groups.{ranges_response}
pub use Rattle.ts_spec.specs.Writing.{shows_more, first_full, rules_at, unless_full, within_destinations, within_samples, write_merged, value_at, unless_ignored, write, create_with, add_at, add, put_at, put_own, triple_step, item_of, madd, is_before_last, changed_value, increased, incr_by, incr_at, incr, meets_expired, delete_at, delete}

-- the step of a command; `reading` is the time of the clock in milliseconds
abbrev pub step : Limits → State → (reading : ℕ) → Command → Outcome
step limits m reading (Create key spec) = create limits m key spec
step limits m reading (Alter key change) = alter limits m key change
step limits m reading (Add key at v on spec) = add limits m key (time_of reading at) v on spec
step limits m reading (Madd triples) = madd limits m reading [] triples
step limits m reading (Incr key change at spec) = incr limits m key change (time_of reading at) spec
step limits m reading (DelRange key from to) = delete limits m key from to
step limits m reading (CreateRule source dest agg grid) = create_rule limits m source dest agg grid
step limits m reading (DeleteRule source dest) = delete_rule m source dest
step limits m reading (Range key with_open q) = answer_only m (range_response limits m key with_open q (get key m))
step limits m reading (MRange with_open show filters q group) = answer_only m (ranges_response limits m with_open show q group (selection m filters))
step limits m reading (Get key with_open) = answer_only m (last_response m key with_open (get key m))
step limits m reading (MGet with_open show filters) = answer_only m (LastRows (map (last_member m with_open show) (selection m filters)))
step limits m reading (QueryIndex filters) = answer_only m (Keys (selection m filters))
step limits m reading (InfoOf key) = answer_only m (info_response m key (get key m))
step limits m reading (Ping word) = answer_only m (ping_response word)
step limits m reading (Echo word) = answer_only m (Word word)
step limits m reading Quit = answer_only m Done
step limits m reading (Drop keys) = drop_keys m 0 keys
step limits m reading (Exists keys) = answer_only m (Count (count_there m keys))
