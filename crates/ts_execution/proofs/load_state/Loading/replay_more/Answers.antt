use Rattle.std.proofs.Common.{refl}
use Rattle.ts_execution.proofs.Carried.{carries_none}
use Rattle.ts_execution.proofs.Loadings.{loads-fed-if}
use Rattle.ts_execution.proofs.load_state.Loading.replay_more.Goals as goal

pub returns-in-Ok-clause-loads : goal.returns-in-Ok-clause-loads
returns-in-Ok-clause-loads g c = loads-fed-if c.replay_all.result _ _ _ _ _ _ c.requires.whole c.requires.whole refl refl c.in-Ok.ensures.ok c.replay_all.ensures.loads

pub returns-clause-loads : goal.returns-clause-loads
returns-clause-loads g c = carries_none _ _ (λ from stands. tt)
