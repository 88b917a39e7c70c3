use Rattle.ts_db.proofs.Laws.{create_rule-law}
use Rattle.ts_db.proofs.db.Db.create_rule.Goals as goal

pub invariant_of-self : goal.invariant_of-self
invariant_of-self c = (create_rule-law c.self.inside.store c.create_rule.new.self c.self.view_is c.self.invariant c.create_rule.ensures.store c.args.source.now c.args.dest.now c.args.agg c.args.grid c.create_rule.result c.create_rule.ensures.ruled).0

pub returns-clause-ruled : goal.returns-clause-ruled
returns-clause-ruled c = (create_rule-law c.self.inside.store c.create_rule.new.self c.self.view_is c.self.invariant c.create_rule.ensures.store c.args.source.now c.args.dest.now c.args.agg c.args.grid c.create_rule.result c.create_rule.ensures.ruled).1
