use Rattle.std.proofs.Common.{◌≡◌, [], drop}
use Rattle.ts_spec.specs.StoredStep.{stored_meets_expired}
use Rattle.ts_db.specs.Store.{rules_by}
use Rattle.ts_db.proofs.deletion.meet_expired.Given as goal

-- all rules touch an expired bucket exactly if one of the remaining rules does
abbrev pub invariant-loop-rule : goal.invariant-loop-rule
invariant-loop-rule l = stored_meets_expired l.from l.edge (rules_by (λ id. []) (drop l.rule-index l.rules)) ≡ stored_meets_expired l.from l.edge (rules_by (λ id. []) l.rules)
