use Rattle.ts_db.proofs.Laws.{delete-law}
use Rattle.ts_db.proofs.db.Db.delete_range.Goals as goal

pub invariant_of-self : goal.invariant_of-self
invariant_of-self g c = (delete-law c.self.inside.store c.delete_range.new.self c.self.view_is c.self.invariant c.delete_range.ensures.store c.args.key.now c.args.from c.args.to c.delete_range.result c.delete_range.ensures.deleted).0

pub returns-clause-deleted : goal.returns-clause-deleted
returns-clause-deleted g c = (delete-law c.self.inside.store c.delete_range.new.self c.self.view_is c.self.invariant c.delete_range.ensures.store c.args.key.now c.args.from c.args.to c.delete_range.result c.delete_range.ensures.deleted).1
