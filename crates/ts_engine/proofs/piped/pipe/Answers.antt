use Rattle.ts_engine.proofs.Pipes.{causes_plain}
use Rattle.ts_engine.proofs.piped.pipe.Goals as goal

pub returns-clause-causes : goal.returns-clause-causes
returns-clause-causes g c = causes_plain c.pipe_with.result.end _ _ _ _ _ _ c.pipe_with.ensures.causes
