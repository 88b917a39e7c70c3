use Rattle.std.proofs.Common.{◌≡◌, ◌-◌, ◌≤◌, drop}
use Rattle.std.specs.Ordering.{nat_cmp}
use Rattle.std.specs.Cmp.Lexicographic.{slice_cmp}
use Rattle.ts_resp.proofs.order.order.Given as goal

-- what is left compares as all does
abbrev pub invariant-loop-at : goal.invariant-loop-at
invariant-loop-at l = record {
  within : l.at ≤ l.both;
  left : slice_cmp nat_cmp (drop l.at l.a) (drop l.at l.b) ≡ slice_cmp nat_cmp l.a l.b;
}

abbrev pub decreases-loop-at : goal.decreases-loop-at
decreases-loop-at l = l.both - l.at
