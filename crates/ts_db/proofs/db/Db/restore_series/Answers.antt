use Rattle.ts_restore.specs.Restorable.{IsNewSeries}
use Rattle.ts_restore.specs.Restored.{keys_with_series, with_series}
use Rattle.ts_db.specs.Restoring.{part_of_series}
use Rattle.ts_db.proofs.RestoredLaw.{restored-law}
use Rattle.ts_db.proofs.db.Db.restore_series.Goals as goal

pub invariant_of-self : goal.invariant_of-self
invariant_of-self g c =
    let part = part_of_series c.args.key c.args.labels c.args.series in
    (restored-law (λ limits keys. IsNewSeries limits keys part) (keys_with_series part) (with_series part)
    (λ limits keys m r v. c.restored_parts_are_represented.ensures.series limits keys m part r v)
    c.self.inside.store c.restore_series.new.self c.self.view_is c.self.invariant c.restore_series.ensures.store c.restore_series.result c.restore_series.ensures.restored).0

pub returns-clause-each : goal.returns-clause-each
returns-clause-each g c =
    let part = part_of_series c.args.key c.args.labels c.args.series in
    (restored-law (λ limits keys. IsNewSeries limits keys part) (keys_with_series part) (with_series part)
    (λ limits keys m r v. c.restored_parts_are_represented.ensures.series limits keys m part r v)
    c.self.inside.store c.restore_series.new.self c.self.view_is c.self.invariant c.restore_series.ensures.store c.restore_series.result c.restore_series.ensures.restored).1.each
