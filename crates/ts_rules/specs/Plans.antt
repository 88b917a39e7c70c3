-- The result of a plan for a rule.
use Rattle.std.specs.Prelude.{◌≡◌, ℕ, ◌<◌, ◌≤◌, ⊤, Bool, List, length, Option, None, Some, Result, Ok, Err}
use Rattle.ts_spec.specs.Sample.{Point}
use Rattle.ts_spec.specs.StoredSeries.{StoredRule}
use Rattle.ts_spec.specs.StoredUpdates.{updated_list, high_after_rows}
use Rattle.ts_series.specs.History.{History, list_of}
use Rattle.ts_series.specs.Plan.{Plan, after, IsFor}
use Rattle.ts_rules.specs.declared.rule.Rule.{Rule}
use Rattle.ts_rules.specs.declared.plan.RulePlan.{RulePlan}
use Rattle.ts_rules.specs.declared.plan.RuleFault.{RuleFault}
use Rattle.ts_rules.specs.declared.plan.RuleFault.TheVariants.{Full, Memory}
use Rattle.ts_rules.specs.Rules.{IsChanged}

-- the destination after the plan, or unchanged without one
abbrev pub after_plan : Option Plan → History → History
after_plan None h = h
after_plan (Some plan) h = after plan h

-- the plan, if there is one, fits this destination
abbrev pub IsForDest : Option Plan → History → Type 0
IsForDest None h = ⊤
IsForDest (Some plan) h = IsFor plan h

-- the destination's samples after `rows` replace those whose times pass the test
abbrev pub list_after_update : (gone : ℕ → Bool) → (rows : List Point) → History → List Point
list_after_update gone rows h = updated_list h.options.retention h.high gone rows (list_of h)

-- the plan updates the destination like this, within the limit
pub record IsUpdatedBy (limit : ℕ) (gone : ℕ → Bool) (rows : List Point) (h : History) (plan : Option Plan) : Type 0 where
  pub made_for : IsForDest plan h
  pub list : list_of (after_plan plan h) ≡ list_after_update gone rows h
  pub high : (after_plan plan h).high ≡ high_after_rows rows h.high
  pub options : (after_plan plan h).options ≡ h.options
  pub fits : length (list_after_update gone rows h) ≤ limit

-- `Full` means that the destination would exceed the limit, `Memory` that it would not
abbrev pub IsUnplanned : (limit : ℕ) → (gone : ℕ → Bool) → (rows : List Point) → History → RuleFault → Type 0
IsUnplanned limit gone rows h Full = limit < length (list_after_update gone rows h)
IsUnplanned limit gone rows h (Memory e) = length (list_after_update gone rows h) ≤ limit

-- the result of planning an update of the destination
abbrev pub IsUpdate : (limit : ℕ) → (gone : ℕ → Bool) → (rows : List Point) → History → Result (Option Plan) RuleFault → Type 0
IsUpdate limit gone rows h (Ok plan) = IsUpdatedBy limit gone rows h plan
IsUpdate limit gone rows h (Err fault) = IsUnplanned limit gone rows h fault

-- the result of planning a change for a rule: the changed rule and the updated destination
abbrev pub IsPlanned : (limit : ℕ) → (change : StoredRule → StoredRule) → (gone : ℕ → Bool) → (rows : List Point) → Rule → (dest : History) → Result RulePlan RuleFault → Type 0
IsPlanned limit change gone rows r dest (Ok plan) = IsChanged change r plan.rule × IsUpdatedBy limit gone rows dest plan.dest
IsPlanned limit change gone rows r dest (Err fault) = IsUnplanned limit gone rows dest fault
