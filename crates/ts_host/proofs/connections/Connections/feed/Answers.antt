use Rattle.std.proofs.Common.{[], ap, ◌∙◌}
use Rattle.ts_mux.specs.Order.{without}
use Rattle.ts_mux.proofs.LostFrames.{lost_frame}
use Rattle.ts_host.proofs.connections.Connections.feed.Goals as goal

pub returns-then-self-clause-lost : goal.returns-then-self-clause-lost
returns-then-self-clause-lost c = λ frames. lost_frame c.args.self.now.mux c.args.link c.args.bytes.now frames

pub returns-in-Err-clause-lost : goal.returns-in-Err-clause-lost
returns-in-Err-clause-lost c = λ frames. lost_frame c.args.self.now.mux c.args.link c.args.bytes.now frames

pub returns-in-Err-deliver_bytes-clause-own : goal.returns-in-Err-deliver_bytes-clause-own
returns-in-Err-deliver_bytes-clause-own c = ap (without c.args.link) (c.in-Err-deliver_bytes.ensures.err [] ∙ c.requires.asked)
