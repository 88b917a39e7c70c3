use Rattle.std.proofs.Common.{◌≡◌, ◌+◌, ◌<◌, ◌^◌, drop, length}
use Rattle.ts_spec.specs.Text.{Array, text, texts}
use Rattle.ts_resp.specs.Replies.{all_of}
use Rattle.ts_resp.proofs.reply.+size.Given as goal

-- the length so far and the remaining texts add up to the whole length
abbrev pub invariant-array_len-loop-reply : goal.invariant-array_len-loop-reply
invariant-array_len-loop-reply l = record {
  whole : l.total + length (texts (all_of (drop l.reply-index l.replies))) ≡ length (text (Array (all_of l.replies)));
  fits : l.total < 2 ^ 64;
}
