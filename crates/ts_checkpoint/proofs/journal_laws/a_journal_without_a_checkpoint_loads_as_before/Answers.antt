use Rattle.ts_checkpoint.proofs.AsBefore.{loads-as_before, loads-still}
use Rattle.ts_checkpoint.proofs.journal_laws.a_journal_without_a_checkpoint_loads_as_before.Goals as goal

pub returns : goal.returns
returns c = record { same = loads-as_before; still = loads-still }
