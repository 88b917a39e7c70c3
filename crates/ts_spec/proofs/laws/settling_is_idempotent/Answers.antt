use Rattle.ts_spec.proofs.Settles.{settled-twice}
use Rattle.ts_spec.proofs.laws.settling_is_idempotent.Goals as goal

pub returns : goal.returns
returns c = settled-twice
