use Rattle.std.specs.Prelude.{None}
use Rattle.ts_db.proofs.Applying.{has-such, store-altered, altered, unaltered}
use Rattle.ts_db.proofs.store.Store.relabel.Goals as goal

pub alter-requires : goal.alter-requires
alter-requires c = has-such c.args.self.now c.args.id c.args.plan c.args.labels None c.requires.ready

pub returns-clause-store : goal.returns-clause-store
returns-clause-store c =
    store-altered c.args.self.now c.requires.store c.args.id c.args.plan c.args.labels c.requires.ready c.alter.new.self c.alter.result c.alter.ensures.altered c.alter.ensures.unchanged

pub returns-clause-applied : goal.returns-clause-applied
returns-clause-applied c = altered c.args.self.now c.requires.store c.args.id c.args.plan c.args.labels c.requires.ready c.alter.new.self c.alter.result c.alter.ensures.altered

pub returns-clause-unchanged : goal.returns-clause-unchanged
returns-clause-unchanged c = unaltered c.args.self.now c.requires.store c.args.id c.args.plan c.args.labels c.requires.ready c.alter.new.self c.alter.result c.alter.ensures.unchanged
