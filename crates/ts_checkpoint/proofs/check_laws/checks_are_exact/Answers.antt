use Rattle.ts_checkpoint.proofs.ExactChecks.{new-series-exact, new-rule-exact}
use Rattle.ts_checkpoint.proofs.ExactChunks.{chunk-follows}
use Rattle.ts_checkpoint.proofs.check_laws.checks_are_exact.Goals as goal

pub returns : goal.returns
returns c = record { series = new-series-exact; rule = new-rule-exact; chunk = chunk-follows }
