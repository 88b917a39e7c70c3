use Rattle.std.proofs.Common.{◌≡◌, ◌≤◌, ◌+◌, ◌++◌, not, take}
use Rattle.ts_spec.specs.Sample.{at_times}
use Rattle.ts_rules.specs.Deletions.{is_lost}
use Rattle.ts_rules.proofs.deletion.Deletion.push_unaffected.Given as goal

abbrev pub invariant-loop-sample : goal.invariant-loop-sample
invariant-loop-sample l = record {
  list : l.rows.list ≡ l.fn.rows.list ++ at_times (λ t. not (is_lost l.fn.self.rule.now l.fn.self.source.now l.fn.self.from l.fn.self.to t)) (take l.sample-index l.shown);
  room : l.fn.rows.room ≤ l.rows.room + l.sample-index;
}
