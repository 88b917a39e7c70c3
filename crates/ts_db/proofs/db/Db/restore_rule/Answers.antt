use Rattle.ts_restore.specs.Restorable.{IsNewRule}
use Rattle.ts_restore.specs.Restored.{keys_with_rule, with_restored_rule}
use Rattle.ts_db.specs.Restoring.{part_of_rule}
use Rattle.ts_db.proofs.RestoredLaw.{restored-law}
use Rattle.ts_db.proofs.db.Db.restore_rule.Goals as goal

pub invariant_of-self : goal.invariant_of-self
invariant_of-self g c =
    let part = part_of_rule c.args.source.now c.args.dest.now c.args.rule in
    (restored-law (λ limits keys. IsNewRule limits keys part) (keys_with_rule part) (with_restored_rule part)
    (λ limits keys m r v. c.restored_parts_are_represented.ensures.rule limits keys m part r v)
    c.self.inside.store c.restore_rule.new.self c.self.view_is c.self.invariant c.restore_rule.ensures.store c.restore_rule.result c.restore_rule.ensures.restored).0

pub returns-clause-each : goal.returns-clause-each
returns-clause-each g c =
    let part = part_of_rule c.args.source.now c.args.dest.now c.args.rule in
    (restored-law (λ limits keys. IsNewRule limits keys part) (keys_with_rule part) (with_restored_rule part)
    (λ limits keys m r v. c.restored_parts_are_represented.ensures.rule limits keys m part r v)
    c.self.inside.store c.restore_rule.new.self c.self.view_is c.self.invariant c.restore_rule.ensures.store c.restore_rule.result c.restore_rule.ensures.restored).1.each
