-- Series grouped by the value of a label.
use Rattle.std.specs.Prelude.{ℕ, false, List, map, flat_map}
use Rattle.ts_spec.specs.Answer.{Row}
use Rattle.ts_spec.specs.Groups.{Labelled, values, having}
use Rattle.ts_range.specs.Query.{row_of}
use Rattle.ts_multi.specs.declared.replies.Member.{Member}
use Rattle.ts_group.specs.Summaries.{ReductionState, summaries}
use Rattle.ts_group.specs.Sources.{sources_text}
use Rattle.ts_group.specs.declared.one_group.Group.{Group}

-- a member with its labels and rows
abbrev pub labelled_of : Member → Labelled
labelled_of m = record { key = m.key; labels = m.labels; rows = map row_of m.rows.items }

-- the reduction of these rows
abbrev pub reduction_of : List Row → ReductionState
reduction_of rows = record { summaries = summaries rows; lost = false }

-- the group of these series
abbrev pub grouped : List Labelled → Group
grouped ms = record { sources = sources_text (map (λ m. m.key) ms); reduction = reduction_of (flat_map (λ m. m.rows) ms) }

-- the groups of series, by value of the label
abbrev pub by_values : (label : List ℕ) → List Labelled → List (List ℕ × Group)
by_values label ms = map (λ value. (value, grouped (having label value ms))) (values label ms)
