use Rattle.std.proofs.Common.{◌∙◌, arith}
use Rattle.ts_range.proofs.Order.{start-at}
use Rattle.ts_range.proofs.starts.Starts.at.Goals as goal

pub returns-else-number-eq0-clause-start : goal.returns-else-number-eq0-clause-start
returns-else-number-eq0-clause-start c =
    c.number-number.ensures.same ∙ start-at c.args.self.now c.number-number.result (omega arith) c.number-number.ensures.within
