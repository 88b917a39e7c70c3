use Rattle.ts_mux.specs.Order.{nothing_sent}
use Rattle.ts_mux.proofs.LostFrames.{without-frame}
use Rattle.ts_mux.proofs.laws.bytes_bring_nothing_of_others.Goals as goal

pub returns : goal.returns
returns c = λ closes link frame frames own. without-frame closes link (nothing_sent c.args.limits) frame frames own
