use Rattle.ts_decimal.proofs.Scaling.{nothing_left}
use Rattle.ts_decimal.proofs.reading.lower.Goals as goal

pub returns-then-k-gt-MAX_LOWER-clause-value : goal.returns-then-k-gt-MAX_LOWER-clause-value
returns-then-k-gt-MAX_LOWER-clause-value c = nothing_left c.args.first c.args.k c.requires.kept c.if-k-gt-MAX_LOWER.true
