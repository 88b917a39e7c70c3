use Rattle.std.proofs.Common.{[]}
use Rattle.ts_io.proofs.Batching.{holds_still}
use Rattle.ts_io.proofs.Growth.{grows_twice}
use Rattle.ts_io.proofs.batches.Batches.send_all_and_read.Goals as goal

pub returns-clause-has : goal.returns-clause-has
returns-clause-has g c = grows_twice _ _ _ [] [] c.in_ok-send_all.ensures.has (holds_still _ _ _ c.receive.ensures.has)
