-- Replies to queries, computed from the stored data.
use Rattle.std.specs.Prelude.{ℕ, Bool, true, false, nat_le, if◌then◌else◌, List, [], ◌∷◌, map, length, Option, Some, None}
use Rattle.ts_spec.specs.declared.limits.Limits.{Limits}
use Rattle.ts_spec.specs.Sample.{Point, first_of, last_of, put_all}
use Rattle.ts_spec.specs.Key.{Key}
use Rattle.ts_spec.specs.Keyed.{Entry, get}
use Rattle.ts_spec.specs.State.{Label}
use Rattle.ts_spec.specs.Filter.{Filter, all_hold}
use Rattle.ts_spec.specs.Refusal.{NoKey}
use Rattle.ts_spec.specs.Command.{Query, Show, GroupBy, Command, Create, Alter, Add, Madd, Incr, DelRange, CreateRule, DeleteRule, Range, MRange, Get, MGet, QueryIndex, InfoOf, Ping, Echo, Quit, Drop, Exists}
use Rattle.ts_spec.specs.Answer.{Row, answer}
use Rattle.ts_spec.specs.Response.{Member, RuleInfo, Info, Response, Done, Count, Refused, LastRow, LastRows, Keys, KeyInfo, Word}
use Rattle.ts_spec.specs.Outcome.{time_of}
use Rattle.ts_spec.specs.Queries.{rows_response, labels_shown, members_response, last_row, row_list, time_or_0, ping_response}
use Rattle.ts_spec.specs.Groups.{uncounted, grouped_response}
use Rattle.ts_spec.specs.StoredSeries.{StoredRule, StoredSeries, StoredKeys}
use Rattle.ts_spec.specs.StoredUpdates.{bucket_row, stored_rule_to}
use Rattle.ts_spec.specs.StoredStep.{StoredOutcome, unchanged_with, stored_edge, list_at, stored_rules_at, stored_create, stored_alter, stored_add, stored_madd, stored_incr, stored_delete, stored_create_rule, stored_delete_rule, stored_drop_keys, stored_count_there}

-- the rule from `source` to the key
abbrev pub rule_from : StoredKeys → Key → Option Key → Option StoredRule
rule_from m k None = None
rule_from m k (Some source) = stored_rule_to k (stored_rules_at (get source m))

-- the row of an open bucket that starts at the edge or later
abbrev pub open_row : (edge born : ℕ) → StoredRule → Option ℕ → List Point
open_row low born q None = []
open_row low born q (Some o) = if nat_le low o then bucket_row q.agg born o q.running else []

-- what a key shows with LATEST: its samples and the open bucket of the rule that writes to it
abbrev pub with_open : Option StoredRule → StoredSeries → List Point
with_open None d = d.list
with_open (Some q) d = put_all (open_row (stored_edge d) d.born q q.current) d.list

-- the same; a missing key shows no samples
abbrev pub latest_list_at : StoredKeys → Key → Option StoredSeries → List Point
latest_list_at m k None = []
latest_list_at m k (Some d) = with_open (rule_from m k d.source) d

-- the samples that a query reads, with or without LATEST
abbrev pub stored_asked : StoredKeys → (latest : Bool) → Key → List Point
stored_asked m true k = latest_list_at m k (get k m)
stored_asked m false k = list_at (get k m)

-- TS.RANGE and TS.REVRANGE
abbrev pub stored_range_response : Limits → StoredKeys → Key → Bool → Query → Option StoredSeries → Response
stored_range_response limits m key latest q None = Refused NoKey
stored_range_response limits m key latest q (Some d) = rows_response (answer limits.empty_rows q (stored_asked m latest key))

-- the labels of the stored series at a key
abbrev pub stored_labels_at : Option StoredSeries → List Label
stored_labels_at None = []
stored_labels_at (Some d) = d.labels

-- one series in a reply over many
abbrev pub stored_member : StoredKeys → Show → Key → List Row → Member
stored_member m show key rows = record { key = key; labels = labels_shown show (stored_labels_at (get key m)); rows = rows }

-- prepends a series, unless it would return too many rows
abbrev pub stored_member_then : StoredKeys → Show → Key → Option (List Row) → Option (List Member) → Option (List Member)
stored_member_then m show key None others = None
stored_member_then m show key (Some rows) None = None
stored_member_then m show key (Some rows) (Some others) = Some (stored_member m show key rows ∷ others)

-- the series of a reply over many, or `None` if one of them would return too many rows
abbrev pub stored_members_of : Limits → StoredKeys → Bool → Show → Query → List Key → Option (List Member)
stored_members_of limits m latest show q [] = Some []
stored_members_of limits m latest show q (k ∷ ks) =
    stored_member_then m show k (answer limits.empty_rows q (stored_asked m latest k)) (stored_members_of limits m latest show q ks)

-- TS.MRANGE and TS.MREVRANGE over these keys, series by series or in groups
abbrev pub stored_ranges_response : Limits → StoredKeys → (latest : Bool) → Show → Query → Option GroupBy → List Key → Response
stored_ranges_response limits m latest show q None ks = members_response (stored_members_of limits m latest show q ks)
stored_ranges_response limits m latest show q (Some by) ks =
    grouped_response by show q (λ k. stored_labels_at (get k m)) (λ k. answer limits.empty_rows (uncounted q) (stored_asked m latest k)) ks

-- TS.GET
abbrev pub stored_last_response : StoredKeys → Key → Bool → Option StoredSeries → Response
stored_last_response m key latest None = Refused NoKey
stored_last_response m key latest (Some d) = LastRow (last_row (stored_asked m latest key))

-- one series in the reply of TS.MGET
abbrev pub stored_last_member : StoredKeys → Bool → Show → Key → Member
stored_last_member m latest show k = stored_member m show k (row_list (last_row (stored_asked m latest k)))

-- the keys whose labels pass all filters, in ascending order
abbrev pub stored_selected_in : List Filter → List (Entry StoredSeries) → List Key
stored_selected_in filters [] = []
stored_selected_in filters (e ∷ es) = if all_hold filters e.value.labels then e.key ∷ stored_selected_in filters es else stored_selected_in filters es

-- the keys that the filters of a query select
abbrev pub stored_selection : StoredKeys → List Filter → List Key
stored_selection m filters = stored_selected_in filters m.entries

-- what TS.INFO returns for a rule
abbrev pub stored_rule_info : StoredRule → RuleInfo
stored_rule_info q = record { dest = q.dest; grid = q.grid; agg = q.agg }

-- what TS.INFO returns for a key
abbrev pub stored_info_of : StoredSeries → Info
stored_info_of d = record {
  total = length d.list;
  first = time_or_0 (first_of d.list);
  last = time_or_0 (last_of d.list);
  options = d.options;
  labels = d.labels;
  source = d.source;
  rules = map stored_rule_info d.rules;
}

-- TS.INFO
abbrev pub stored_info_response : Option StoredSeries → Response
stored_info_response None = Refused NoKey
stored_info_response (Some d) = KeyInfo (stored_info_of d)

-- one step over the stored data; `reading` is the time of the clock in milliseconds
abbrev pub stored_step : Limits → StoredKeys → (reading : ℕ) → Command → StoredOutcome
stored_step limits m reading (Create key spec) = stored_create limits m key spec
stored_step limits m reading (Alter key change) = stored_alter limits m key change
stored_step limits m reading (Add key at v on spec) = stored_add limits m key (time_of reading at) v on spec
stored_step limits m reading (Madd triples) = stored_madd limits m reading [] triples
stored_step limits m reading (Incr key change at spec) = stored_incr limits m key change (time_of reading at) spec
stored_step limits m reading (DelRange key from to) = stored_delete limits m key from to
stored_step limits m reading (CreateRule source dest agg grid) = stored_create_rule limits m source dest agg grid
stored_step limits m reading (DeleteRule source dest) = stored_delete_rule m source dest
stored_step limits m reading (Range key latest q) = unchanged_with m (stored_range_response limits m key latest q (get key m))
stored_step limits m reading (MRange latest show filters q group) = unchanged_with m (stored_ranges_response limits m latest show q group (stored_selection m filters))
stored_step limits m reading (Get key latest) = unchanged_with m (stored_last_response m key latest (get key m))
stored_step limits m reading (MGet latest show filters) = unchanged_with m (LastRows (map (stored_last_member m latest show) (stored_selection m filters)))
stored_step limits m reading (QueryIndex filters) = unchanged_with m (Keys (stored_selection m filters))
stored_step limits m reading (InfoOf key) = unchanged_with m (stored_info_response (get key m))
stored_step limits m reading (Ping word) = unchanged_with m (ping_response word)
stored_step limits m reading (Echo word) = unchanged_with m (Word word)
stored_step limits m reading Quit = unchanged_with m Done
stored_step limits m reading (Drop keys) = stored_drop_keys m 0 keys
stored_step limits m reading (Exists keys) = unchanged_with m (Count (stored_count_there m keys))
