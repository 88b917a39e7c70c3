use Rattle.std.proofs.Common.{◌≡◌, sym, ◌∙◌, ap}
use Rattle.std.specs.Prelude.{is_some}
use Rattle.ts_spec.specs.Keyed.{get}
use Rattle.ts_db.specs.DbState.{DbView}
use Rattle.ts_db.specs.Store.{id_for_key}
use Rattle.ts_db.proofs.Collecting.{get-ids}
use Rattle.ts_db.proofs.Asking.{numbered-there}
use Rattle.ts_db.proofs.db.Db.id_of.Goals as goal

pub returns-clause-id : goal.returns-clause-id
returns-clause-id c =
    c.copied.ensures ∙ c.get.ensures.value ∙ sym (get-ids c.args.key.now c.self.inside.store.keys.entries)
    ∙ ap (λ (db_view : DbView). get c.args.key.now db_view.ids) c.self.view_is

pub returns-clause-there : goal.returns-clause-there
returns-clause-there c =
    let number : c.copied.result ≡ id_for_key c.args.key.now c.self.inside.store.keys.entries = c.copied.ensures ∙ c.get.ensures.value in
    ap is_some number ∙ numbered-there c.self.inside.store c.self.invariant.store c.args.key.now
    ∙ ap (λ (db_view : DbView). is_some (get c.args.key.now db_view.keys)) c.self.view_is
