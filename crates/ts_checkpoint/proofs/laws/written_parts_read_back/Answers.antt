use Rattle.ts_checkpoint.proofs.ReadBack.{reads-back}
use Rattle.ts_checkpoint.proofs.laws.written_parts_read_back.Goals as goal

pub returns : goal.returns
returns c = reads-back c.records_read_back.ensures.words
