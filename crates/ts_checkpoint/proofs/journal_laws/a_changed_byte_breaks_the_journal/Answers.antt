use Rattle.ts_checkpoint.proofs.DamagedBytes.{damaged-breaks}
use Rattle.ts_checkpoint.proofs.journal_laws.a_changed_byte_breaks_the_journal.Goals as goal

pub returns : goal.returns
returns c = λ limits before after one other m place b d fits e less. damaged-breaks limits b before after one other d fits m place e less
