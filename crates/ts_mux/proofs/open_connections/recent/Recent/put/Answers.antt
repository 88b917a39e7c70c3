use Rattle.std.proofs.Common.{rules}
use Rattle.ts_mux.proofs.RecentLemmas.{takes}
use Rattle.ts_mux.proofs.open_connections.recent.Recent.put.Goals as goal

pub returns : goal.returns
returns c = takes c.args.self.now.slots c.args.at c.slot_of.result c.slot_of.ensures.slot (search rules)
