use Rattle.std.proofs.Common.{subst}
use Rattle.std.specs.Prelude.{◌≡◌, is_some}
use Rattle.ts_spec.specs.Keyed.{get}
use Rattle.ts_db.specs.DbState.{DbState, DbView, Represents}
use Rattle.ts_db.specs.Store.{db_view_of}
use Rattle.ts_db.proofs.Laws.{there-law}
use Rattle.ts_db.proofs.db.Db.has.Goals as goal

pub returns-clause-each : goal.returns-clause-each
returns-clause-each c =
    subst (λ (db_view : DbView). (held : DbState) → Represents db_view held → c.has.result ≡ is_some (get c.args.key.now held.state)) c.self.view_is
    (there-law (db_view_of c.self.inside.store) c.args.key.now c.has.result c.has.ensures)
