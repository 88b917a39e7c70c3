use Rattle.std.proofs.Common.{◌≡◌, length, ap, arith}
use Rattle.ts_spec.specs.Text.{Array, text}
use Rattle.ts_resp.specs.Replies.{all_of}
use Rattle.ts_resp.proofs.ReplyLemmas.{length-array, texts-drop}
use Rattle.ts_resp.proofs.reply.+size.Goals as goal

pub array_len-loop-reply-init : goal.array_len-loop-reply-init
array_len-loop-reply-init t c = record {
  whole = omega (arith, length-array c.args.replies.now, c.count_len-total.ensures.value);
  fits = omega (arith, c.count_len-total.ensures.short);
}

pub array_len-returns : goal.array_len-returns
array_len-returns t c =
    let none = texts-drop c.args.replies.now c.loop-reply.reply-index c.loop-reply-test.false in
    let whole : c.loop-reply.total ≡ length (text (Array (all_of c.args.replies.now))) = omega (arith, ap length none, c.loop-reply.invariant.whole) in
    (omega (arith, whole, c.loop-reply.invariant.fits), whole)
