use Rattle.std.proofs.Common.{arith}
use Rattle.std.proofs.lemmas.Grind.{common_steps}
use Rattle.ts_db.proofs.create.begun.Goals as goal

pub returns-in-Ok-clause-steps : goal.returns-in-Ok-clause-steps
returns-in-Ok-clause-steps c = grind (arith, common_steps)

pub returns-in-Err-Unwritten-clause-steps : goal.returns-in-Err-Unwritten-clause-steps
returns-in-Err-Unwritten-clause-steps c = grind (arith, common_steps)
