use Rattle.std.proofs.Common.{◌≡◌, IfOk, subst}
use Rattle.ts_spec.specs.Replies.{member_reply}
use Rattle.ts_spec.specs.Response.{Member}
use Rattle.ts_resp.specs.Replies.{reply_of}
use Rattle.ts_group.proofs.group_replies.reply_to.Goals as goal

pub returns : goal.returns
returns c = λ ms. λ is.
    subst (λ (m : Member). IfOk c.group_reply.result (λ reply. reply_of reply ≡ member_reply m)) (c.reply_parts-rows.ensures c.args.options.now.show.now ms is) c.group_reply.ensures
