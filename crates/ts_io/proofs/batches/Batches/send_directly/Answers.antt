use Rattle.ts_io.proofs.Batching.{write_directly}
use Rattle.ts_io.proofs.batches.Batches.send_directly.Goals as goal

pub returns-clause-bytes : goal.returns-clause-bytes
returns-clause-bytes g c = write_directly _ _ _ _ _ c.requires c.send.ensures.bytes
