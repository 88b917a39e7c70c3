use Rattle.std.proofs.Common.{◌≡◌, ◌≤◌, ◌++◌, drop, length, map, vec_len, vec_capacity}
use Rattle.ts_spec.specs.Replies.{row_reply}
use Rattle.ts_resp.specs.Replies.{reply_of}
use Rattle.ts_range.specs.Query.{row_of}
use Rattle.ts_multi.proofs.replies.member_reply.Given as goal

-- the replies so far and those of the rows that are left are all of them, and there is room
abbrev pub invariant-loop-row : goal.invariant-loop-row
invariant-loop-row g l = record {
  so_far : map reply_of l.replies.items ++ map row_reply (map row_of (drop l.row-index l.rows)) ≡ map row_reply (map row_of l.rows);
  count : vec_len l.replies ≡ l.row-index;
  room : length l.rows ≤ vec_capacity l.replies;
}
