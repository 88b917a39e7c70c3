use Rattle.std.proofs.Common.{◌+◌, ◌≤◌, length, map, vec_len, vec_capacity}
use Rattle.ts_resp.specs.Replies.{reply_of}
use Rattle.ts_labels.specs.Show.{show_of}
use Rattle.ts_command.specs.GroupBy.{group_of}
use Rattle.ts_group.specs.Grouped.{labelled_of}
use Rattle.ts_group.proofs.Gathered.{AreLeft}
use Rattle.ts_group.proofs.group_replies.group.Given as goal

-- the replies so far and those of the groups that are left are all of them, and there is room
abbrev pub invariant-loop-value : goal.invariant-loop-value
invariant-loop-value l = record {
  so_far : AreLeft (group_of l.by) (show_of l.show) l.fn.count l.reverse (map labelled_of l.members) l.value-iterator (map reply_of l.shown.items);
  room : vec_len l.shown + length l.value-iterator ≤ vec_capacity l.shown;
}
