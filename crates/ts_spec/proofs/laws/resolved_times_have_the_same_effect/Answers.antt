use Rattle.ts_spec.proofs.ResolvedTimes.{step-resolved, no-clock}
use Rattle.ts_spec.proofs.laws.resolved_times_have_the_same_effect.Goals as goal

pub returns-clause-clock : goal.returns-clause-clock
returns-clause-clock c = no-clock

pub returns-clause-step : goal.returns-clause-step
returns-clause-step c = step-resolved
