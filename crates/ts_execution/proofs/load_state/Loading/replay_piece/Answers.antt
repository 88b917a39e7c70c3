use Rattle.ts_execution.proofs.Loadings.{loads-past}
use Rattle.ts_execution.proofs.load_state.Loading.replay_piece.Goals as goal

pub returns-in-Some-clause-loads : goal.returns-in-Some-clause-loads
returns-in-Some-clause-loads g c = loads-past _ _ _ _ c.in-Some.is
