use Rattle.ts_labels.specs.Spec.{spec_of}
use Rattle.ts_db.proofs.Laws.{create-law}
use Rattle.ts_db.proofs.db.Db.create.Goals as goal

pub invariant_of-self : goal.invariant_of-self
invariant_of-self c = (create-law c.self.inside.store c.create.new.self c.self.view_is c.self.invariant c.create.ensures.store c.args.key (spec_of c.args.spec) c.create.result c.create.ensures.created).0

pub returns-clause-created : goal.returns-clause-created
returns-clause-created c = (create-law c.self.inside.store c.create.new.self c.self.view_is c.self.invariant c.create.ensures.store c.args.key (spec_of c.args.spec) c.create.result c.create.ensures.created).1
