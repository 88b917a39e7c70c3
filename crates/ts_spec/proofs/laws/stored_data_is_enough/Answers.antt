use Rattle.ts_spec.proofs.StoredSteps.{empty-stands, kept-step}
use Rattle.ts_spec.proofs.laws.stored_data_is_enough.Goals as goal

pub returns : goal.returns
returns c = record { empty = empty-stands; step = kept-step }
