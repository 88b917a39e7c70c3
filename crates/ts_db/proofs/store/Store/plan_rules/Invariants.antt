use Rattle.std.proofs.Common.{◌≡◌, ◌≤◌, ◌+◌, take, drop, length, vec_len}
use Rattle.ts_db.specs.Planning.{changed_by, gone_by, rows_by_change, AllHaveCountCapacity, IsSharedOf, AreChanged, AreDestinationsUpdatedBy, first_full, shares_of, AreEasyOf, HasCapacityForRules}
use Rattle.ts_db.specs.Store.{AreLive}
use Rattle.ts_db.proofs.store.Store.plan_rules.Given as goal

-- the plans so far are those of the first rules, whose destinations are not full, and capacity suffices for all rules
abbrev pub invariant-loop-rule : goal.invariant-loop-rule
invariant-loop-rule g l = record {
  changed : AreChanged (changed_by l.work l.source) (take l.rule-index l.rules) l.planned.rules.items;
  update_dest : AreDestinationsUpdatedBy l.self.limits.samples l.self.nodes (rows_by_change l.work l.source) (gone_by l.work l.source) (take l.rule-index l.rules) l.planned.plans.items;
  fit : first_full l.self.limits.samples l.self.nodes (rows_by_change l.work l.source) (gone_by l.work l.source) (drop l.rule-index l.rules)
      ≡ first_full l.self.limits.samples l.self.nodes (rows_by_change l.work l.source) (gone_by l.work l.source) l.rules;
  live : AreLive l.self.nodes (drop l.rule-index l.rules);
  shared : IsSharedOf l.work l.source l.shared;
  takes : AllHaveCountCapacity l.work l.source (drop l.rule-index l.rules);
  many : vec_len l.planned.plans ≡ l.rule-index;
  room : HasCapacityForRules (length (drop l.rule-index l.rules)) l.planned;
  counted : l.initial.steps ≤ l.steps;
  steps : l.steps + shares_of l.self.nodes l.work l.source (drop l.rule-index l.rules) ≤ l.initial.steps + shares_of l.self.nodes l.work l.source l.rules;
  easy : AreEasyOf l.self.limits.samples l.self.nodes l.work l.source l.rules
      → (l.steps ≡ l.initial.steps) × AreEasyOf l.self.limits.samples l.self.nodes l.work l.source (drop l.rule-index l.rules);
}
