-- Members of a reply as values of the specification.
use Rattle.std.specs.Prelude.{◌≤◌, ◌++◌, ℕ, List, length, map}
use Rattle.std.specs.Option.{option_copied}
use Rattle.std.specs.Fmt.{decimal}
use Rattle.ts_spec.specs.State.{Label}
use Rattle.ts_spec.specs.Answer.{Row}
use Rattle.ts_spec.specs.Queries.{labels_shown}
use Rattle.ts_spec.specs.Replies.{labels_reply}
use Rattle.ts_spec.specs.Response as spec
use Rattle.ts_spec.specs.Text.{Bulk, line_text, text}
use Rattle.ts_labels.specs.declared.labels.Show.{Show}
use Rattle.ts_labels.specs.Show.{show_of}
use Rattle.ts_range.specs.Query.{row_of}
use Rattle.ts_multi.specs.declared.replies.Member.{Member}
use Rattle.ts_multi.specs.declared.shown.ReplyLabel.{ReplyLabel}

-- a label of a reply
abbrev pub label_of : ReplyLabel → spec.ShownLabel
label_of s = record { name = s.name.now; value = option_copied s.value }

-- a member with this key, these labels and these rows
abbrev pub member_showing : (key : List ℕ) → List spec.ShownLabel → List Row → spec.Member
member_showing key labels rows = record { key = key; labels = labels; rows = rows }

-- the text of such a member up to its rows
abbrev pub head_text : (key : List ℕ) → List spec.ShownLabel → List ℕ
head_text key labels = line_text 42 (decimal 3) ++ text (Bulk key) ++ text (labels_reply labels)

-- a member with this key, the requested ones of its labels, and these rows
abbrev pub member_with : Show → (key : List ℕ) → List Label → List Row → spec.Member
member_with show key labels rows = member_showing key (labels_shown (show_of show) labels) rows

-- a member with its requested labels
abbrev pub member_of : Show → Member → spec.Member
member_of show m = member_with show m.key m.labels (map row_of m.rows.items)

-- the members, in order
abbrev pub members_of : Show → List Member → List spec.Member
members_of show ms = map (member_of show) ms

-- the member has at most one row
abbrev pub HasAtMostOneRow : Member → Type 0
HasAtMostOneRow m = length m.rows.items ≤ 1
