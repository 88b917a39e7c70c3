use Rattle.std.proofs.Common.{◌≡◌, ◌≤◌, ◌++◌, drop, length, map, vec_len, vec_capacity}
use Rattle.ts_spec.specs.Replies.{shown_label_reply}
use Rattle.ts_resp.specs.Replies.{reply_of}
use Rattle.ts_multi.proofs.replies.labels_reply.Given as goal

-- the replies so far and those of the labels that are left are all of them, and there is room
abbrev pub invariant-loop-list_index : goal.invariant-loop-list_index
invariant-loop-list_index g l = record {
  so_far : map reply_of l.replies.items ++ map shown_label_reply (drop l.list_index (g.S.ReplyLabelList.shown l.labels)) ≡ map shown_label_reply (g.S.ReplyLabelList.shown l.labels);
  count : vec_len l.replies ≡ l.list_index;
  room : length (g.S.ReplyLabelList.shown l.labels) ≤ vec_capacity l.replies;
}
