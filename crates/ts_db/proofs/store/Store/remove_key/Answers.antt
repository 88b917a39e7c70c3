use Rattle.std.proofs.Common.{sym}
use Rattle.ts_db.proofs.Storing.{store-removed}
use Rattle.ts_db.proofs.Removal.{links-left, drops-key}
use Rattle.ts_db.proofs.store.Store.remove_key.Goals as goal

pub returns-clause-keys : goal.returns-clause-keys
returns-clause-keys c =
    drops-key c.args.self.now.limits c.args.self.now.nodes c.args.self.now.keys.entries c.requires.store c.args.key.now c.remove-2.new.self c.in-Some.id (sym c.in-Some.ensures.value) c.remove-2.ensures.updates
    c.requires.free c.remove.new.self.entries c.remove.ensures.updates.0

pub returns-clause-store : goal.returns-clause-store
returns-clause-store c =
    store-removed c.args.self.now.limits c.args.self.now.nodes c.args.self.now.keys.entries c.requires.store c.remove-2.new.self c.remove.new.self.entries c.args.key.now c.in-Some.id
    (sym c.in-Some.ensures.value) c.remove-2.ensures.updates c.remove.ensures.updates.0 c.remove-2.ensures.len c.in-Some.ensures.len
    (links-left c.args.self.now.limits c.args.self.now.nodes c.args.self.now.keys.entries c.requires.store c.args.key.now c.remove-2.new.self c.in-Some.id (sym c.in-Some.ensures.value) c.remove-2.ensures.updates
    c.requires.free)
