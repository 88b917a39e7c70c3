use Rattle.ts_io.proofs.Batching.{holds_still}
use Rattle.ts_io.proofs.batches.Batches.try_read.Goals as goal

pub returns-clause-has : goal.returns-clause-has
returns-clause-has g c = holds_still _ _ _ c.try_receive.ensures.has
