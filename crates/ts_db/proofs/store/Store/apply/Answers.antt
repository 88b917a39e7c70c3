use Rattle.std.specs.Prelude.{None}
use Rattle.ts_db.proofs.Applying.{has-such, store-applied, applied, elsewhere}
use Rattle.ts_db.proofs.store.Store.apply.Goals as goal

pub apply-requires : goal.apply-requires
apply-requires c = has-such c.args.self.now c.args.id c.args.plan None c.args.rules c.requires.ready

pub returns-clause-store : goal.returns-clause-store
returns-clause-store c = store-applied c.args.self.now c.requires.store c.args.id c.args.plan None c.args.rules c.requires.ready c.apply.new.self c.apply.ensures

pub returns-clause-applied : goal.returns-clause-applied
returns-clause-applied c = applied c.args.self.now c.requires.store c.args.id c.args.plan None c.args.rules c.requires.ready c.apply.new.self c.apply.ensures

pub returns-clause-elsewhere : goal.returns-clause-elsewhere
returns-clause-elsewhere c = elsewhere c.args.self.now c.requires.store c.args.id c.args.plan None c.args.rules c.requires.ready c.apply.new.self c.apply.ensures
