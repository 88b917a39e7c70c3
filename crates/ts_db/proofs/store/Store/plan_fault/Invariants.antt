use Rattle.std.proofs.Common.{◌≡◌, ◌≤◌, ◌+◌, drop}
use Rattle.ts_db.specs.Planning.{gone_by, rows_by_change, AllHaveCountCapacity, first_full, shares_of, AreEasyOf}
use Rattle.ts_db.specs.Store.{AreLive}
use Rattle.ts_db.proofs.store.Store.plan_fault.Given as goal

-- no destination so far is full
abbrev pub invariant-loop-rule : goal.invariant-loop-rule
invariant-loop-rule g l = record {
  fit : first_full l.self.limits.samples l.self.nodes (rows_by_change l.work l.source) (gone_by l.work l.source) (drop l.rule-index l.rules)
      ≡ first_full l.self.limits.samples l.self.nodes (rows_by_change l.work l.source) (gone_by l.work l.source) l.rules;
  live : AreLive l.self.nodes (drop l.rule-index l.rules);
  takes : AllHaveCountCapacity l.work l.source (drop l.rule-index l.rules);
  counted : l.initial.steps ≤ l.steps;
  steps : l.steps + shares_of l.self.nodes l.work l.source (drop l.rule-index l.rules) ≤ l.initial.steps + shares_of l.self.nodes l.work l.source l.rules;
  easy : AreEasyOf l.self.limits.samples l.self.nodes l.work l.source l.rules
      → (l.steps ≡ l.initial.steps) × AreEasyOf l.self.limits.samples l.self.nodes l.work l.source (drop l.rule-index l.rules);
}
