use Rattle.ts_db.proofs.Laws.{delete_rule-law}
use Rattle.ts_db.proofs.db.Db.delete_rule.Goals as goal

pub invariant_of-self : goal.invariant_of-self
invariant_of-self c = (delete_rule-law c.self.inside.store c.delete_rule.new.self c.self.view_is c.self.invariant c.delete_rule.ensures.store c.args.source.now c.args.dest.now c.delete_rule.result c.delete_rule.ensures.ended).0

pub returns-clause-ended : goal.returns-clause-ended
returns-clause-ended c = (delete_rule-law c.self.inside.store c.delete_rule.new.self c.self.view_is c.self.invariant c.delete_rule.ensures.store c.args.source.now c.args.dest.now c.delete_rule.result c.delete_rule.ensures.ended).1
