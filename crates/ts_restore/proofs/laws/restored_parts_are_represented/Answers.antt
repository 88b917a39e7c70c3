use Rattle.ts_restore.proofs.RestoringSeries.{represents-series}
use Rattle.ts_restore.proofs.RestoringRules.{represents-rule}
use Rattle.ts_restore.proofs.Restoring.{represents-checkpoint}
use Rattle.ts_restore.proofs.laws.restored_parts_are_represented.Goals as goal

pub returns : goal.returns
returns c = record { series = represents-series; rule = represents-rule; restored = represents-checkpoint }
