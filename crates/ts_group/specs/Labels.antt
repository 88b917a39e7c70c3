-- The labels of a group.
use Rattle.std.specs.Prelude.{ℕ, List, [], ◌∷◌, ◌++◌, codes}
use Rattle.ts_spec.specs.Aggregate.{aggregator_of}
use Rattle.ts_spec.specs.State.{Label}
use Rattle.ts_spec.specs.Answer.{Row}
use Rattle.ts_spec.specs.Queries.{labels_shown}
use Rattle.ts_spec.specs.Replies.{aggregator_name}
use Rattle.ts_spec.specs.Response as spec
use Rattle.ts_labels.specs.declared.labels.Show.{Show}
use Rattle.ts_labels.specs.Show.{show_of}
use Rattle.ts_multi.specs.Members.{member_showing}
use Rattle.ts_group.specs.declared.labels.GroupLabels.{GroupLabels}

-- the labels of a group: its own, the reducer, and the source keys
abbrev pub labels_of : GroupLabels → List Label
labels_of g =
    record { name = g.label.now; value = g.value.now }
    ∷ record { name = codes "__reducer__"; value = aggregator_name (aggregator_of g.reducer) }
    ∷ record { name = codes "__source__"; value = g.sources.now }
    ∷ []

-- the requested ones of them
abbrev pub shown_of : Show → GroupLabels → List spec.ShownLabel
shown_of show g = labels_shown (show_of show) (labels_of g)

-- the key that a reply shows for a group
abbrev pub key_of : GroupLabels → List ℕ
key_of g = g.label.now ++ codes "=" ++ g.value.now

-- a group as a member of the reply, with these rows
abbrev pub member_with : Show → GroupLabels → List Row → spec.Member
member_with show g rows = member_showing (key_of g) (shown_of show g) rows
