use Rattle.std.proofs.Common.{subst}
use Rattle.std.specs.Prelude.{◌≡◌, nat_le}
use Rattle.ts_spec.specs.Keyed.{count_keys}
use Rattle.ts_db.specs.DbState.{DbState, DbView, Represents}
use Rattle.ts_db.specs.Store.{db_view_of}
use Rattle.ts_db.proofs.Laws.{full-law}
use Rattle.ts_db.proofs.db.Db.is_full.Goals as goal

pub returns-clause-each : goal.returns-clause-each
returns-clause-each c =
    subst (λ (db_view : DbView). (held : DbState) → Represents db_view held → c.is_full.result ≡ nat_le held.limits.keys (count_keys held.state)) c.self.view_is
    (full-law (db_view_of c.self.inside.store) c.is_full.result c.is_full.ensures)
