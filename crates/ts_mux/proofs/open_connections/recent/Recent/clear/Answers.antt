use Rattle.std.proofs.Common.{rules}
use Rattle.ts_mux.proofs.RecentLemmas.{clears}
use Rattle.ts_mux.proofs.open_connections.recent.Recent.clear.Goals as goal

pub returns : goal.returns
returns c = clears c.args.self.now.slots c.args.link c.slot_of.result c.slot_of.ensures.slot (search rules)
