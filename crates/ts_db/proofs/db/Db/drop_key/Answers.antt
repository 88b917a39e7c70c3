use Rattle.std.proofs.Common.{subst}
use Rattle.ts_db.specs.DbState.{DbState, DbView, Represents, Drops}
use Rattle.ts_db.specs.Store.{db_view_of}
use Rattle.ts_db.proofs.Laws.{drop-law, drop-leads}
use Rattle.ts_db.proofs.db.Db.drop_key.Goals as goal

pub invariant_of-self : goal.invariant_of-self
invariant_of-self c = record {
  store = c.drop_key.ensures.store;
  stands = drop-leads (db_view_of c.self.inside.store) (db_view_of c.drop_key.new.self) c.args.key.now c.drop_key.result
      (drop-law (db_view_of c.self.inside.store) (db_view_of c.drop_key.new.self) c.args.key.now c.drop_key.result c.drop_key.ensures.there c.drop_key.ensures.keys c.drop_key.ensures.limits)
      c.self.invariant.stands;
}

pub returns-clause-dropped : goal.returns-clause-dropped
returns-clause-dropped c =
    subst (λ (old : DbView). (from : DbState) → Represents old from → Drops c.args.key.now c.drop_key.result from (db_view_of c.drop_key.new.self)) c.self.view_is
    (drop-law (db_view_of c.self.inside.store) (db_view_of c.drop_key.new.self) c.args.key.now c.drop_key.result c.drop_key.ensures.there c.drop_key.ensures.keys c.drop_key.ensures.limits)
