-- The plan of a write to a source, for one of its rules and the rule's destination.
use Rattle.std.specs.Prelude.{ℕ, false, Result}
use Rattle.ts_spec.specs.Sample.{Point}
use Rattle.ts_series.specs.History.{History}
use Rattle.ts_rules.specs.declared.rule.Rule.{Rule}
use Rattle.ts_rules.specs.declared.plan.RulePlan.{RulePlan}
use Rattle.ts_rules.specs.declared.plan.RuleFault.{RuleFault}
use Rattle.ts_rules.specs.Writes.{rule_after, row_for_dest}
use Rattle.ts_rules.specs.Plans.{IsPlanned}

-- the plan of writing this sample; `source` is as it was before
abbrev pub IsPlanOfWrite : (limit : ℕ) → Rule → (source : History) → Point → (dest : History) → Result RulePlan RuleFault → Type 0
IsPlanOfWrite limit r source p dest result = IsPlanned limit (rule_after source p) (λ t. false) (row_for_dest source p dest.born r) r dest result
