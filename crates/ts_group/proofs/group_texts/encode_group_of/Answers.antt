use Rattle.std.proofs.Common.{◌≡◌, ◌++◌, OnOk, subst}
use Rattle.ts_spec.specs.Replies.{member_reply}
use Rattle.ts_spec.specs.Response.{Member}
use Rattle.ts_spec.specs.Text.{text}
use Rattle.ts_group.proofs.group_texts.encode_group_of.Goals as goal

pub returns-clause-ok : goal.returns-clause-ok
returns-clause-ok c = λ ms. λ is.
    subst (λ (m : Member). OnOk c.encode_group.result (c.encode_group.new.out.bytes ≡ c.args.out.now.bytes ++ text (member_reply m)))
    (c.reply_parts-rows.ensures c.args.options.now.show.now ms is) c.encode_group.ensures.ok
