use Rattle.ts_labels.specs.Spec.{spec_of}
use Rattle.ts_db.proofs.Laws.{incr-law}
use Rattle.ts_db.proofs.db.Db.incr.Goals as goal

pub invariant_of-self : goal.invariant_of-self
invariant_of-self g c = (incr-law c.self.inside.store c.incr.new.self c.self.view_is c.self.invariant c.incr.ensures.store c.args.key c.args.change c.args.time (spec_of c.args.spec) c.incr.result c.incr.ensures.changed).0

pub returns-clause-changed : goal.returns-clause-changed
returns-clause-changed g c = (incr-law c.self.inside.store c.incr.new.self c.self.view_is c.self.invariant c.incr.ensures.store c.args.key c.args.change c.args.time (spec_of c.args.spec) c.incr.result c.incr.ensures.changed).1
