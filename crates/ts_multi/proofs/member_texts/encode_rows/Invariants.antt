use Rattle.std.proofs.Common.{◌+◌, ◌*◌, ◌≤◌, drop, length, map}
use Rattle.ts_range.specs.Query.{row_of}
use Rattle.ts_spec.specs.Replies.{row_reply}
use Rattle.ts_multi.proofs.Texts.{GoesOn}
use Rattle.ts_multi.proofs.member_texts.encode_rows.Given as goal

-- the rows that are left, after those that were written, make the text of all, and have their room
abbrev pub invariant-loop-row : goal.invariant-loop-row
invariant-loop-row l = record {
  texts : GoesOn row_reply l.initial.out.bytes l.out.bytes (map row_of (drop l.row-index l.rows)) (map row_of l.rows);
  items : 64 * length (drop l.row-index l.rows) ≤ l.out.spare;
  room : length l.initial.out.bytes + l.initial.out.spare ≤ length l.out.bytes + l.out.spare;
}
