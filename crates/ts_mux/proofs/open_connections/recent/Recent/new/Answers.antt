use Rattle.std.proofs.Common.{arith}
use Rattle.ts_mux.proofs.RecentLemmas.{none_recent}
use Rattle.ts_mux.proofs.open_connections.recent.Recent.new.Goals as goal

pub returns : goal.returns
returns c = λ link. none_recent link (omega arith)
