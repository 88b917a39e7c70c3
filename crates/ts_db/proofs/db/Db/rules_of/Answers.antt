use Rattle.std.proofs.Common.{sym, subst}
use Rattle.std.specs.List.{All}
use Rattle.ts_db.specs.DbState.{DbView, IsLive}
use Rattle.ts_db.specs.Restoring.{StoresRules}
use Rattle.ts_db.specs.Store.{db_view_of}
use Rattle.ts_db.proofs.Asking.{numbered-holds, node-live}
use Rattle.ts_db.proofs.Indexing.{contains}
use Rattle.ts_db.proofs.StoredParts.{stores-rules, live-rules-of}
use Rattle.ts_db.proofs.db.Db.rules_of.Goals as goal

pub node-requires : goal.node-requires
node-requires c =
    let of = node-live c.self.inside.store c.self.invariant.store c.args.id (subst (λ (db_view : DbView). IsLive db_view.ids c.args.id) (sym c.self.view_is) c.requires) in
    contains c.self.inside.store.nodes c.args.id of.0 of.1

pub returns-clause-stored : goal.returns-clause-stored
returns-clause-stored c = rw (← c.self.view_is) (λ key at.
    subst (StoresRules (db_view_of c.self.inside.store) key) (sym c.deref.ensures.value)
    (stores-rules c.self.inside.store c.self.invariant.store key c.args.id c.node.result.now (numbered-holds c.self.inside.store key c.args.id c.node.result.now at c.node.ensures)))

pub returns-clause-live : goal.returns-clause-live
returns-clause-live c = rw (← c.self.view_is)
    (subst (All (λ r. IsLive (db_view_of c.self.inside.store).ids r.dest)) (sym c.deref.ensures.value)
    (live-rules-of c.self.inside.store c.self.invariant.store c.node.result.now.rules.items (c.self.invariant.store.live c.args.id.0 c.node.result.now c.node.ensures).rules))
