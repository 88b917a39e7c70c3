use Rattle.ts_rules.specs.Deletions.{left_of}
use Rattle.ts_rules.proofs.rule_plans.plan_delete.Goals as goal

pub plan_delete_shared-requires-clause-shared : goal.plan_delete_shared-requires-clause-shared
plan_delete_shared-requires-clause-shared g c = c.new-shared.ensures (left_of c.args.source.now c.args.from c.args.to)
