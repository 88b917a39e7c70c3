use Rattle.ts_journal.proofs.Unrecorded.{unrecorded-stays}
use Rattle.ts_journal.proofs.laws.what_is_not_recorded_changes_nothing.Goals as goal

pub returns : goal.returns
returns c = unrecorded-stays
