use Rattle.ts_db.proofs.Dropped.{drop_keys-law}
use Rattle.ts_db.proofs.db.Db.drop_keys.Goals as goal

pub invariant_of-self : goal.invariant_of-self
invariant_of-self c =
    (drop_keys-law c.self.inside.store c.drop_keys.new.self c.self.view_is c.self.invariant c.drop_keys.ensures.store c.args.keys.now c.drop_keys.result c.drop_keys.ensures.dropped
    c.drop_keys.ensures.limits).0

pub returns-clause-dropped : goal.returns-clause-dropped
returns-clause-dropped c =
    (drop_keys-law c.self.inside.store c.drop_keys.new.self c.self.view_is c.self.invariant c.drop_keys.ensures.store c.args.keys.now c.drop_keys.result c.drop_keys.ensures.dropped
    c.drop_keys.ensures.limits).1
