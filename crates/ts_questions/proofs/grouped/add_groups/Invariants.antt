use Rattle.std.proofs.Common.{◌+◌, ◌≤◌, length}
use Rattle.ts_questions.proofs.Gathered.{AreToCome}
use Rattle.ts_questions.proofs.grouped.add_groups.Given as goal

-- the groups that are left, after those that were written, are all of them
abbrev pub invariant-loop-value : goal.invariant-loop-value
invariant-loop-value g l = record {
  groups : AreToCome l.db l.group_query l.ids l.value-iterator l.initial.out.bytes l.out.bytes l.initial.lost l.lost l.initial.steps l.steps;
  room : length l.fn.out.bytes + l.fn.out.spare ≤ length l.out.bytes + l.out.spare;
}
