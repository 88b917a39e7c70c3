use Rattle.std.proofs.Common.{refl, sym}
use Rattle.ts_mux.specs.Order.{nothing_sent}
use Rattle.ts_mux.proofs.OrderLemmas.{items-without}
use Rattle.ts_mux.proofs.laws.connections_stand_apart.Goals as goal

pub returns : goal.returns
returns c = λ closes link frames.
    sym (items-without closes link (nothing_sent c.args.limits) (nothing_sent c.args.limits) frames (λ at apart before bytes. refl))
