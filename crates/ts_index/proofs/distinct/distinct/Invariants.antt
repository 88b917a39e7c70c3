use Rattle.std.proofs.Common.{◌≡◌, ◌≤◌, List, length, take}
use Rattle.ts_spec.specs.State.{Label}
use Rattle.ts_spec.specs.Filter.{all_hold}
use Rattle.ts_index.specs.Selecting.{lent}
use Rattle.ts_index.proofs.distinct.distinct.Given as goal

-- those that are kept ask what all so far ask
abbrev pub invariant-loop-filter : goal.invariant-loop-filter
invariant-loop-filter l = record {
  same : (labels : List Label) → all_hold (lent l.kept.items) labels ≡ all_hold (lent (take l.filter-index l.filter-items)) labels;
  few : length l.kept.items ≤ l.filter-index;
}
