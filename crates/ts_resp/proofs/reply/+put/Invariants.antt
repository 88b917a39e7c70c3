use Rattle.std.proofs.Common.{◌≡◌, ◌+◌, ◌≤◌, ◌++◌, drop, length}
use Rattle.ts_spec.specs.Text.{Array, text, texts}
use Rattle.ts_resp.specs.Replies.{all_of}
use Rattle.ts_resp.proofs.reply.+put.Given as goal

-- the text written so far and the remaining texts make up the whole, and capacity suffices for the rest
abbrev pub invariant-write_array-loop-reply : goal.invariant-write_array-loop-reply
invariant-write_array-loop-reply l = record {
  bytes : l.out.bytes ++ texts (all_of (drop l.reply-index l.replies)) ≡ l.fn.out.bytes ++ text (Array (all_of l.replies));
  room : l.out.spare + length (text (Array (all_of l.replies))) ≡ l.fn.out.spare + length (texts (all_of (drop l.reply-index l.replies)));
  enough : length (texts (all_of (drop l.reply-index l.replies))) ≤ l.out.spare;
}
