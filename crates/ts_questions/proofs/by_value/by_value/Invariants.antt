use Rattle.std.proofs.Common.{◌≡◌, take}
use Rattle.ts_group.specs.Sorted.{by_values_of}
use Rattle.ts_questions.specs.GroupQuery.{numbered}
use Rattle.ts_questions.proofs.by_value.by_value.Given as goal

-- those before the one at hand are at their values
abbrev pub invariant-loop-id : goal.invariant-loop-id
invariant-loop-id l = l.groups.entries ≡ by_values_of (numbered l.db l.group_query) l.group_query.by.label (take l.id-index l.ids)
