use Rattle.ts_restore.proofs.Alike.{alike-responses, alike-stored}
use Rattle.ts_restore.proofs.laws.states_with_the_same_stored_data_answer_alike.Goals as goal

pub returns : goal.returns
returns c = record { response = alike-responses; stored = alike-stored }
