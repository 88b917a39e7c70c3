use Rattle.ts_spec.proofs.Allowed.{empty-valid}
use Rattle.ts_spec.proofs.StoredSteps.{step-valid}
use Rattle.ts_spec.proofs.laws.each_step_keeps_a_state_valid.Goals as goal

pub returns : goal.returns
returns c = record { empty = empty-valid; step = step-valid }
