use Rattle.ts_spec.proofs.Untaken.{triple-told}
use Rattle.ts_spec.proofs.laws.a_failed_triple_changes_nothing.Goals as goal

pub returns : goal.returns
returns c = triple-told
