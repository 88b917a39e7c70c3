use Rattle.std.proofs.Common.{rules}
use Rattle.ts_restore.proofs.check_number.with_eight.Goals as goal
use Rattle.ts_restore.proofs.CheckNumbers.{after_eight}

pub returns-clause-value : goal.returns-clause-value
returns-clause-value c =
    after_eight c.args.check c.from.result c.number.result c.number-2.result c.args.high c.args.low c.from.ensures c.number.ensures.value c.number-2.ensures.value (search rules) (search rules)
