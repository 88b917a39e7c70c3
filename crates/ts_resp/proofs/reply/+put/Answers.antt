use Rattle.std.proofs.Common.{◌++◌, length, ap, ◌∙◌, sym, append_assoc, arith}
use Rattle.std.specs.Fmt.{decimal}
use Rattle.ts_spec.specs.Text.{line_text, texts}
use Rattle.ts_resp.specs.Replies.{all_of}
use Rattle.ts_resp.proofs.ReplyLemmas.{length-array, length-line, text-array}
use Rattle.ts_resp.proofs.reply.+put.Goals as goal

pub write_array-write_count-requires : goal.write_array-write_count-requires
write_array-write_count-requires t c =
    omega (arith, length-array c.args.replies.now, length-line 42 (decimal (length c.args.replies.now)), c.requires)

pub write_array-loop-reply-init : goal.write_array-loop-reply-init
write_array-loop-reply-init t c = record {
  bytes = ap (λ bytes. bytes ++ texts (all_of c.args.replies.now)) c.write_count.ensures.bytes
      ∙ append_assoc c.args.out.now.bytes (line_text 42 (decimal (length c.args.replies.now))) (texts (all_of c.args.replies.now))
      ∙ ap (λ text. c.args.out.now.bytes ++ text) (sym (text-array c.args.replies.now));
  room = omega (arith, length-array c.args.replies.now, length-line 42 (decimal (length c.args.replies.now)), c.write_count.ensures.room);
  enough = omega (arith, length-array c.args.replies.now, length-line 42 (decimal (length c.args.replies.now)), c.write_count.ensures.room, c.requires);
}
