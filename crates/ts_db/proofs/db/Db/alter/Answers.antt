use Rattle.ts_labels.specs.Spec.{change_of}
use Rattle.ts_db.proofs.Laws.{alter-law}
use Rattle.ts_db.proofs.db.Db.alter.Goals as goal

pub invariant_of-self : goal.invariant_of-self
invariant_of-self g c = (alter-law c.self.inside.store c.alter.new.self c.self.view_is c.self.invariant c.alter.ensures.store c.args.key.now (change_of c.args.change) c.alter.result c.alter.ensures.altered).0

pub returns-clause-altered : goal.returns-clause-altered
returns-clause-altered g c = (alter-law c.self.inside.store c.alter.new.self c.self.view_is c.self.invariant c.alter.ensures.store c.args.key.now (change_of c.args.change) c.alter.result c.alter.ensures.altered).1
