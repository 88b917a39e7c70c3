use Rattle.ts_db.proofs.Known.{durations}
use Rattle.ts_db.proofs.StoredParts.{ids-of}
use Rattle.ts_db.proofs.db.Db.ids.Goals as goal

pub returns-clause-ids : goal.returns-clause-ids
returns-clause-ids c = rw (← c.self.view_is)
    (ids-of c.self.inside.store c.self.invariant.store c.ids.ensures.sorted c.ids.ensures.found (λ v. v.items) c.ids.result c.ids.ensures.ids)

pub returns-clause-durations : goal.returns-clause-durations
returns-clause-durations c = rw (← c.self.view_is) (durations c.self.inside.store c.self.invariant.store)
