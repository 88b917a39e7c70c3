use Rattle.std.proofs.Common.{sym, ◌∙◌}
use Rattle.ts_db.proofs.Laws.{labels-law}
use Rattle.ts_db.proofs.db.Db.labels_of.Goals as goal

pub returns-clause-each : goal.returns-clause-each
returns-clause-each c = λ held st key at. sym (c.node.ensures.shows key at).labels ∙ labels-law c.args.self.now key held st
