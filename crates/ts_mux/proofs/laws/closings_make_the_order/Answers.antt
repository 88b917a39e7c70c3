use Rattle.ts_mux.specs.Order.{nothing_sent}
use Rattle.ts_mux.proofs.Closings.{items-closing, closing-without}
use Rattle.ts_mux.proofs.laws.closings_make_the_order.Goals as goal

pub returns-clause-order : goal.returns-clause-order
returns-clause-order c = λ closes frames. items-closing closes (nothing_sent c.args.limits) frames

pub returns-clause-close : goal.returns-clause-close
returns-clause-close c = λ closes link items. closing-without closes link items
