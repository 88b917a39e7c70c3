-- The plan of a deletion on a source, for one of its rules and the rule's destination.
use Rattle.std.specs.Prelude.{ℕ, Result}
use Rattle.ts_series.specs.History.{History}
use Rattle.ts_rules.specs.declared.rule.Rule.{Rule}
use Rattle.ts_rules.specs.declared.plan.RulePlan.{RulePlan}
use Rattle.ts_rules.specs.declared.plan.RuleFault.{RuleFault}
use Rattle.ts_rules.specs.Plans.{IsPlanned}
use Rattle.ts_rules.specs.Deletions.{rule_left, is_lost, rows_left}

-- the plan of deleting from `from` to `to`; `source` is as it was before
abbrev pub IsPlanOfDeletion : (limit : ℕ) → Rule → (source : History) → (from to : ℕ) → (dest : History) → Result RulePlan RuleFault → Type 0
IsPlanOfDeletion limit r source from to dest result =
    IsPlanned limit (rule_left source from to) (is_lost r source from to) (rows_left r source from to dest.born) r dest result
