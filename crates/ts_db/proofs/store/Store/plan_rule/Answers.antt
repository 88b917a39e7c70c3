use Rattle.ts_db.proofs.Planned.{shared-first}
use Rattle.ts_db.proofs.store.Store.plan_rule.Goals as goal

pub plan_next-requires-clause-shared : goal.plan_next-requires-clause-shared
plan_next-requires-clause-shared g c = shared-first c.args.work c.args.source.now c.new-shared.result c.new-shared.ensures
