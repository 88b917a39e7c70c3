use Rattle.ts_db.proofs.PutBy.{put_with_policy-law}
use Rattle.ts_db.proofs.db.Db.put_with_hints.Goals as goal

pub invariant_of-self : goal.invariant_of-self
invariant_of-self g c = (put_with_policy-law c.self.inside.store c.put_with_hints.new.self c.self.view_is c.self.invariant c.put_with_hints.ensures.store c.args.key.now c.args.time c.args.value c.args.on c.put_with_hints.result c.put_with_hints.ensures.put).0

pub returns-clause-put : goal.returns-clause-put
returns-clause-put g c = (put_with_policy-law c.self.inside.store c.put_with_hints.new.self c.self.view_is c.self.invariant c.put_with_hints.ensures.store c.args.key.now c.args.time c.args.value c.args.on c.put_with_hints.result c.put_with_hints.ensures.put).1
