use Rattle.std.proofs.Common.{◌≡◌, ◌≤◌, drop}
use Rattle.ts_spec.specs.StoredStep.{stored_drop_keys}
use Rattle.ts_db.specs.Store.{db_view_of, IsDb}
use Rattle.ts_db.proofs.store.Store.drop_each.Given as goal

-- deleting the remaining keys gives what deleting all of them gives
abbrev pub invariant-loop-key : goal.invariant-loop-key
invariant-loop-key l = record {
  db : IsDb l.self;
  limits : l.self.limits ≡ l.initial.self.limits;
  goes_on : stored_drop_keys (db_view_of l.self).keys l.count (drop l.key-index l.keys) ≡ stored_drop_keys (db_view_of l.initial.self).keys 0 l.keys;
  count : l.count ≤ l.key-index;
}
