use Rattle.std.proofs.Common.{◌≡◌, map, take}
use Rattle.ts_group.specs.Grouped.{by_values, labelled_of}
use Rattle.ts_group.proofs.group_replies.by_value.Given as goal

-- those before the one at hand are in their groups
abbrev pub invariant-loop-member : goal.invariant-loop-member
invariant-loop-member l = l.groups.entries ≡ by_values l.label (map labelled_of (take l.member-index l.members))
