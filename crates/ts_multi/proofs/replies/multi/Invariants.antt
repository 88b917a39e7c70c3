use Rattle.std.proofs.Common.{◌≡◌, ◌≤◌, ◌++◌, drop, length, map, vec_len, vec_capacity}
use Rattle.ts_spec.specs.Replies as spec
use Rattle.ts_resp.specs.Replies.{reply_of}
use Rattle.ts_multi.specs.Members.{members_of}
use Rattle.ts_multi.proofs.replies.multi.Given as goal

-- the replies so far and those of the members that are left are all of them, and there is room
abbrev pub invariant-loop-member : goal.invariant-loop-member
invariant-loop-member l = record {
  so_far : map reply_of l.replies.items ++ map spec.member_reply (members_of l.show (drop l.member-index l.members)) ≡ map spec.member_reply (members_of l.show l.members);
  count : vec_len l.replies ≡ l.member-index;
  room : length l.members ≤ vec_capacity l.replies;
}
