-- The plans for a rule, and the states that the stored data represents.
use Rattle.std.specs.Prelude.{◌≡◌, ℕ, ◌<◌, ◌≤◌, length, Some, Ok, Err, ℤ}
use Rattle.ts_spec.specs.declared.limits.Limits.{Limits}
use Rattle.ts_spec.specs.Key.{Key}
use Rattle.ts_spec.specs.Keyed.{get}
use Rattle.ts_spec.specs.State.{State}
use Rattle.ts_spec.specs.Rules.{shown, written, deleted}
use Rattle.ts_spec.specs.Valid.{IsValid}
use Rattle.ts_spec.specs.StoredSeries.{StoredSeries, kept}
use Rattle.ts_spec.specs.StoredStep.{stored_rules_at}
use Rattle.ts_spec.specs.StoredUpdates.{stored_rule_to, stored_sample}
use Rattle.ts_series.specs.History.{History, list_of}
use Rattle.ts_rules.specs.declared.rule.Rule.{Rule}
use Rattle.ts_rules.specs.declared.plan.RulePlan.{RulePlan}
use Rattle.ts_rules.specs.declared.plan.RuleFault.TheVariants.{Full}
use Rattle.ts_rules.specs.Rules.{stored_rule_for}
use Rattle.ts_rules.specs.Plans.{after_plan}
use Rattle.ts_rules.specs.PlansOfWrites.{IsPlanOfWrite}
use Rattle.ts_rules.specs.PlansOfDeletions.{IsPlanOfDeletion}

-- The state has these two keys with this data, and the rule leads from the first to the second.
pub record IsOfState (limits : Limits) (m : State) (key to : Key) (r : Rule) (source dest : History) (s d : StoredSeries) : Type 0 where
  pub valid : IsValid limits m
  pub source_there : get key (kept m) ≡ Some s
  pub source_list : s.list ≡ list_of source
  pub source_high : s.high ≡ source.high
  pub rule : stored_rule_to to s.rules ≡ Some (stored_rule_for to r)
  pub dest_there : get to (kept m) ≡ Some d
  pub dest_options : d.options ≡ dest.options
  pub dest_list : d.list ≡ list_of dest
  pub dest_high : d.high ≡ dest.high
  pub dest_born : d.born ≡ dest.born

-- after the plan the stored rule and destination are those of this state, within the limit
pub record IsAfterPlan (limit : ℕ) (m : State) (key to : Key) (dest : History) (d : StoredSeries) (plan : RulePlan) : Type 0 where
  pub rule : stored_rule_to to (stored_rules_at (get key (kept m))) ≡ Some (stored_rule_for to plan.rule)
  pub destination : get to (kept m) ≡ Some (record d { list = list_of (after_plan plan.dest dest); high = (after_plan plan.dest dest).high })
  pub fits : length (shown m to) ≤ limit

-- a plan of a write gives the stored data after it, and `Full` means that the destination would exceed the limit
pub record IsLawOfWrites (limits : Limits) (m : State) (key to : Key) (r : Rule) (source dest : History) (s d : StoredSeries) (limit t : ℕ) (v : ℤ) : Type 0 where
  pub planned : (plan : RulePlan) → IsPlanOfWrite limit r source (stored_sample t v s) dest (Ok plan) → IsAfterPlan limit (written key t v m) key to dest d plan
  pub full : IsPlanOfWrite limit r source (stored_sample t v s) dest (Err Full) → limit < length (shown (written key t v m) to)

-- the same for a deletion
pub record IsLawOfDeletions (limits : Limits) (m : State) (key to : Key) (r : Rule) (source dest : History) (d : StoredSeries) (limit first last : ℕ) : Type 0 where
  pub planned : (plan : RulePlan) → IsPlanOfDeletion limit r source first last dest (Ok plan) → IsAfterPlan limit (deleted key first last m) key to dest d plan
  pub full : IsPlanOfDeletion limit r source first last dest (Err Full) → limit < length (shown (deleted key first last m) to)
