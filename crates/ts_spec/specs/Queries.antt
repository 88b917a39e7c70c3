-- Responses to queries.
use Rattle.std.specs.Prelude.{ℕ, Bool, true, false, List, [], ◌∷◌, map, length, Option, Some, None, option_map}
use Rattle.ts_spec.specs.declared.limits.Limits.{Limits}
use Rattle.ts_spec.specs.Sample.{Point, first_of, last_of}
use Rattle.ts_spec.specs.Key.{Key}
use Rattle.ts_spec.specs.Keyed.{get}
use Rattle.ts_spec.specs.State.{Label, Rule, Record, State, link_to}
use Rattle.ts_spec.specs.Rules.{shown, latest}
use Rattle.ts_spec.specs.Filter.{value_of}
use Rattle.ts_spec.specs.Refusal.{NoKey, EmptyRows}
use Rattle.ts_spec.specs.Command.{Query, Show, Nothing, All, Selected}
use Rattle.ts_spec.specs.Answer.{Row, row_of, answer}
use Rattle.ts_spec.specs.Response.{ShownLabel, Member, RuleInfo, Info, Response, Refused, Rows, LastRow, Members, KeyInfo, Pong, Word}

-- the samples that a query reads, with the open bucket if LATEST is set
abbrev pub asked : State → (with_open : Bool) → Key → List Point
asked m true k = latest m k
asked m false k = shown m k

-- the rows, or the refusal of too many rows
abbrev pub rows_response : Option (List Row) → Response
rows_response None = Refused EmptyRows
rows_response (Some rows) = Rows rows

-- TS.RANGE and TS.REVRANGE
abbrev pub range_response : Limits → State → Key → Bool → Query → Option Record → Response
range_response limits m key with_open q None = Refused NoKey
range_response limits m key with_open q (Some d) = rows_response (answer limits.empty_rows q (asked m with_open key))

-- a label with its value
abbrev pub shown_label : Label → ShownLabel
shown_label l = record { name = l.name; value = Some l.value }

-- a requested label, with its value if the series has it
abbrev pub picked_label : List Label → List ℕ → ShownLabel
picked_label labels name = record { name = name; value = value_of name labels }

-- the labels that a reply includes
abbrev pub labels_shown : Show → List Label → List ShownLabel
labels_shown Nothing labels = []
labels_shown All labels = map shown_label labels
labels_shown (Selected names) labels = map (picked_label labels) names

-- the labels of the record at a key
abbrev pub labels_at : Option Record → List Label
labels_at None = []
labels_at (Some d) = d.labels

-- one series in a reply over many
abbrev pub member : State → Show → Key → List Row → Member
member m show key rows = record { key = key; labels = labels_shown show (labels_at (get key m)); rows = rows }

-- prepends a series, unless it would return too many rows
abbrev pub member_then : State → Show → Key → Option (List Row) → Option (List Member) → Option (List Member)
member_then m show key None others = None
member_then m show key (Some rows) None = None
member_then m show key (Some rows) (Some others) = Some (member m show key rows ∷ others)

-- the series of a reply over many, or `None` if one of them would return too many rows
abbrev pub members_of : Limits → State → Bool → Show → Query → List Key → Option (List Member)
members_of limits m with_open show q [] = Some []
members_of limits m with_open show q (k ∷ ks) =
    member_then m show k (answer limits.empty_rows q (asked m with_open k)) (members_of limits m with_open show q ks)

-- TS.MRANGE and TS.MREVRANGE
abbrev pub members_response : Option (List Member) → Response
members_response None = Refused EmptyRows
members_response (Some members) = Members members

-- the row of the last sample
abbrev pub last_row : List Point → Option Row
last_row ps = option_map row_of (last_of ps)

-- a list of one row or none
abbrev pub row_list : Option Row → List Row
row_list None = []
row_list (Some row) = row ∷ []

-- TS.GET
abbrev pub last_response : State → Key → Bool → Option Record → Response
last_response m key with_open None = Refused NoKey
last_response m key with_open (Some d) = LastRow (last_row (asked m with_open key))

-- one series in the reply of TS.MGET
abbrev pub last_member : State → Bool → Show → Key → Member
last_member m with_open show k = member m show k (row_list (last_row (asked m with_open k)))

-- what TS.INFO returns for a rule
abbrev pub rule_info : Rule → RuleInfo
rule_info r = record { dest = r.dest; grid = r.grid; agg = r.agg }

-- the time of a sample, or 0 if there is none
abbrev pub time_or_0 : Option Point → ℕ
time_or_0 None = 0
time_or_0 (Some p) = p.time

-- what TS.INFO returns for a key
abbrev pub info_of : State → Key → Record → Info
info_of m key d = record {
  total = length (shown m key);
  first = time_or_0 (first_of (shown m key));
  last = time_or_0 (last_of (shown m key));
  options = d.options;
  labels = d.labels;
  source = option_map (λ l. l.source) (link_to m key);
  rules = map rule_info d.rules;
}

-- TS.INFO
abbrev pub info_response : State → Key → Option Record → Response
info_response m key None = Refused NoKey
info_response m key (Some d) = KeyInfo (info_of m key d)

-- PING, with or without a word
abbrev pub ping_response : Option (List ℕ) → Response
ping_response None = Pong
ping_response (Some word) = Word word
