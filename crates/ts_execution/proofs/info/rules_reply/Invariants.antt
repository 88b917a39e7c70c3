use Rattle.std.proofs.Common.{◌≡◌, ◌+◌, ◌≤◌, ◌++◌, length, map, vec_len, vec_capacity}
use Rattle.std.specs.Vec.Iter.{into_iter_items}
use Rattle.ts_spec.specs.Replies as spec
use Rattle.ts_resp.specs.Replies.{reply_of}
use Rattle.ts_db.specs.Information.{rule_info_of}
use Rattle.ts_execution.proofs.info.rules_reply.Given as goal

-- the replies so far and those of the remaining rules are all of them, and their capacity is reserved
abbrev pub invariant-loop-rule : goal.invariant-loop-rule
invariant-loop-rule l = record {
  so_far : map reply_of l.replies.items ++ map spec.rule_reply (map rule_info_of (into_iter_items l.rule-iterator)) ≡ map spec.rule_reply (map rule_info_of l.fn.rules.items);
  room : vec_len l.replies + length (into_iter_items l.rule-iterator) ≤ vec_capacity l.replies;
}
