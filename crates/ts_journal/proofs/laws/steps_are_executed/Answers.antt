use Rattle.ts_journal.proofs.Replays.{step-done}
use Rattle.ts_journal.proofs.laws.steps_are_executed.Goals as goal

pub returns : goal.returns
returns c = step-done
