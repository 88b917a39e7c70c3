use Rattle.std.proofs.Common.{◌≡◌, ◌≤◌, ◌++◌, drop, length, map, vec_len, vec_capacity}
use Rattle.ts_spec.specs.Replies as spec
use Rattle.ts_resp.specs.Replies.{reply_of}
use Rattle.ts_execution.proofs.info.labels_reply.Given as goal

-- the replies so far and those of the remaining labels are all of them, and their capacity is reserved
abbrev pub invariant-loop-i : goal.invariant-loop-i
invariant-loop-i l = record {
  so_far : map reply_of l.replies.items ++ map spec.label_reply (drop l.i l.labels) ≡ map spec.label_reply l.labels;
  count : vec_len l.replies ≡ l.i;
  room : length l.labels ≤ vec_capacity l.replies;
}
