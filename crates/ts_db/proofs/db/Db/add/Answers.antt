use Rattle.ts_labels.specs.Spec.{spec_of}
use Rattle.ts_db.proofs.Laws.{add-law}
use Rattle.ts_db.proofs.db.Db.add.Goals as goal

pub invariant_of-self : goal.invariant_of-self
invariant_of-self g c = (add-law c.self.inside.store c.add.new.self c.self.view_is c.self.invariant c.add.ensures.store c.args.key c.args.time c.args.value c.args.on (spec_of c.args.spec) c.add.result c.add.ensures.added).0

pub returns-clause-added : goal.returns-clause-added
returns-clause-added g c = (add-law c.self.inside.store c.add.new.self c.self.view_is c.self.invariant c.add.ensures.store c.args.key c.args.time c.args.value c.args.on (spec_of c.args.spec) c.add.result c.add.ensures.added).1
