use Rattle.std.proofs.Common.{◌+◌, ◌*◌, ◌≤◌, length}
use Rattle.ts_spec.specs.Replies.{row_reply}
use Rattle.ts_multi.proofs.Texts.{GoesOn}
use Rattle.ts_group.proofs.group_texts.encode_group_rows.Given as goal

-- the rows that are left, after those that were written, make the text of all, and have their room
abbrev pub invariant-loop-row : goal.invariant-loop-row
invariant-loop-row l = record {
  texts : GoesOn row_reply l.initial.out.bytes l.out.bytes l.rows l.initial.rows;
  items : 64 * length l.rows ≤ l.out.spare;
  room : length l.initial.out.bytes + l.initial.out.spare ≤ length l.out.bytes + l.out.spare;
}

-- a row less is left
abbrev pub decreases-loop-row : goal.decreases-loop-row
decreases-loop-row l = length l.rows
