use Rattle.std.proofs.Common.{◌≡◌, ◌≤◌, ◌+◌, length}
use Rattle.ts_spec.specs.Sample.{IsAscending}
use Rattle.ts_spec.specs.Rules.{is_past}
use Rattle.ts_rules.proofs.Meeting.{met}
use Rattle.ts_rules.proofs.fullness.count_lost.Given as goal

abbrev pub invariant-loop-lost : goal.invariant-loop-lost
invariant-loop-lost g l = record {
  gone : IsAscending l.gone;
  shown : IsAscending l.shown;
  met : l.count + met (is_past l.rule.current) l.rule.grid l.gone l.shown ≡ met (is_past l.rule.current) l.rule.grid l.fn.gone l.fn.shown;
  few : l.count + length l.shown ≤ length l.fn.shown;
  counted : l.fn.steps ≤ l.steps;
  bounded : l.steps + length l.gone + length l.shown ≤ l.fn.steps + length l.fn.gone + length l.fn.shown;
}

abbrev pub decreases-loop-lost : goal.decreases-loop-lost
decreases-loop-lost g l = length l.gone + length l.shown
