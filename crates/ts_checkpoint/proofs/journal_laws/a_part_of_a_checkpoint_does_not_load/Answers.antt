use Rattle.ts_checkpoint.proofs.CheckpointSize.{size-within, cut-loads}
use Rattle.ts_checkpoint.proofs.journal_laws.a_part_of_a_checkpoint_does_not_load.Goals as goal

pub returns : goal.returns
returns c = record { whole = size-within; part = cut-loads }
