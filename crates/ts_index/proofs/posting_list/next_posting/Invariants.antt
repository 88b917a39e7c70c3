use Rattle.std.proofs.Common.{◌≡◌, ◌≤◌, ◌-◌, ◌++◌, length, drop}
use Rattle.ts_index.specs.Candidates.{postings}
use Rattle.ts_index.proofs.posting_list.next_posting.Given as goal

-- no remaining id is lost
abbrev pub invariant-loop-found : goal.invariant-loop-found
invariant-loop-found l = record {
  passed : l.passed ≤ length l.values;
  left : l.found ++ postings l.label (drop l.passed l.values) l.index ≡ l.fn.list ++ postings l.label (drop l.fn.passed l.values) l.index;
}

abbrev pub decreases-loop-found : goal.decreases-loop-found
decreases-loop-found l = length l.values - l.passed
