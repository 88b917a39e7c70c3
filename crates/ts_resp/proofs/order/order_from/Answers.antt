use Rattle.std.proofs.Common.{◌∙◌, arith}
use Rattle.ts_resp.proofs.OrderLemmas.{lengths_cmp}
use Rattle.ts_resp.proofs.order.order_from.Goals as goal

pub returns : goal.returns
returns c =
    c.cmp-2.ensures ∙ lengths_cmp c.args.a.now c.args.b.now c.loop-at.at (omega arith) ∙ c.loop-at.invariant
