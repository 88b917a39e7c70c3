use Rattle.std.proofs.Common.{◌≡◌, ◌+◌, drop}
use Rattle.ts_spec.specs.Filter.{all_hold}
use Rattle.ts_index.specs.Selecting.{lent}
use Rattle.ts_index.proofs.select.pass.Given as goal

-- the labels pass all tests exactly if they pass the remaining ones; each test so far took a step
abbrev pub invariant-loop-test : goal.invariant-loop-test
invariant-loop-test g l = record {
  pass : all_hold (lent (drop l.test-index l.tests)) l.labels ≡ all_hold (lent l.tests) l.labels;
  steps : l.steps ≡ l.fn.steps + l.test-index;
}
