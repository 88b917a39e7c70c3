use Rattle.std.proofs.Common.{sym, subst}
use Rattle.ts_db.specs.DbState.{DbView, IsLive}
use Rattle.ts_db.proofs.Asking.{numbered-holds, node-live}
use Rattle.ts_db.proofs.Indexing.{contains}
use Rattle.ts_db.proofs.StoredParts.{stores-series}
use Rattle.ts_db.proofs.db.Db.series_of.Goals as goal

pub node-requires : goal.node-requires
node-requires c =
    let of = node-live c.self.inside.store c.self.invariant.store c.args.id (subst (λ (db_view : DbView). IsLive db_view.ids c.args.id) (sym c.self.view_is) c.requires) in
    contains c.self.inside.store.nodes c.args.id of.0 of.1

pub returns-clause-stored : goal.returns-clause-stored
returns-clause-stored c = rw (← c.self.view_is) (λ key at.
    stores-series c.self.inside.store c.self.invariant.store key c.args.id c.node.result.now (numbered-holds c.self.inside.store key c.args.id c.node.result.now at c.node.ensures))

pub returns-clause-kept : goal.returns-clause-kept
returns-clause-kept c = (c.self.invariant.store.each c.args.id.0 c.node.result.now c.node.ensures).kept
