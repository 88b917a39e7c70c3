use Rattle.std.proofs.Common.{ap}
use Rattle.std.specs.Prelude.{None}
use Rattle.ts_spec.specs.StoredSeries.{StoredKeys}
use Rattle.ts_db.specs.declared.node.Node.{Node}
use Rattle.ts_db.specs.Store.{contents_of}
use Rattle.ts_db.proofs.Applying.{has-such, elsewhere-turned}
use Rattle.ts_db.proofs.GrownNode.{store-counted_once_more, keys-counted_once_more}
use Rattle.ts_db.proofs.store.Store.append_open.Goals as goal

pub append_open-requires-clause-ready : goal.append_open-requires-clause-ready
append_open-requires-clause-ready c = has-such c.args.self.now c.args.id c.args.plan None None c.requires.ready

pub returns-clause-store : goal.returns-clause-store
returns-clause-store c = store-counted_once_more c.args.self.now c.requires.store c.args.id c.args.plan c.requires.ready c.args.wrote.now c.append_open.new.self c.append_open.ensures

pub returns-clause-counted_once_more : goal.returns-clause-counted_once_more
returns-clause-counted_once_more c key n holds =
    ap (λ (m : StoredKeys). record (contents_of c.args.self.now) { keys = m })
    (keys-counted_once_more c.args.self.now c.requires.store c.args.id c.args.plan c.requires.ready c.args.wrote.now c.append_open.new.self c.append_open.ensures key n holds)

pub returns-clause-elsewhere : goal.returns-clause-elsewhere
returns-clause-elsewhere c = elsewhere-turned c.args.self.now c.requires.store c.args.id c.append_open.new.self c.append_open.ensures (ap (λ (x : Node). x.key) c.append_open.ensures.so.rest)
