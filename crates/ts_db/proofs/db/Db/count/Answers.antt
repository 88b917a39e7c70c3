use Rattle.std.proofs.Common.{rules}
use Rattle.ts_db.proofs.Laws.{count-law}
use Rattle.ts_db.proofs.db.Db.count.Goals as goal

pub returns-clause-each : goal.returns-clause-each
returns-clause-each c = count-law c.args.self.now c.min.result (search rules)
