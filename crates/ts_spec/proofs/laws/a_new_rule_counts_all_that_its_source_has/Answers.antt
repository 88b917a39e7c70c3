use Rattle.ts_spec.proofs.NewCounts.{new-counts}
use Rattle.ts_spec.proofs.StoredSteps.{still-counts}
use Rattle.ts_spec.proofs.laws.a_new_rule_counts_all_that_its_source_has.Goals as goal

pub returns : goal.returns
returns c = record { made = new-counts; step = still-counts }
