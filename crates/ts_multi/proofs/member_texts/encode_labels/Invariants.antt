use Rattle.std.proofs.Common.{◌+◌, ◌≤◌, drop, length}
use Rattle.ts_spec.specs.Replies.{shown_label_reply}
use Rattle.ts_multi.proofs.Texts.{GoesOn}
use Rattle.ts_multi.proofs.member_texts.encode_labels.Given as goal

-- the labels that are left, after those that were written, make the text of all
abbrev pub invariant-loop-list_index : goal.invariant-loop-list_index
invariant-loop-list_index g l = record {
  texts : GoesOn shown_label_reply l.initial.out.bytes l.out.bytes (drop l.list_index (g.S.ReplyLabelList.shown l.labels)) (g.S.ReplyLabelList.shown l.labels);
  room : length l.initial.out.bytes + l.initial.out.spare ≤ length l.out.bytes + l.out.spare;
}
