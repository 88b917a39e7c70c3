use Rattle.std.proofs.Common.{◌≡◌, drop}
use Rattle.std.specs.Ordering.{nat_cmp}
use Rattle.std.specs.Cmp.Lexicographic.{slice_cmp}
use Rattle.ts_resp.proofs.order.order_from.Given as goal

-- what is left compares as all does
abbrev pub invariant-loop-at : goal.invariant-loop-at
invariant-loop-at l = slice_cmp nat_cmp (drop l.at l.a) (drop l.at l.b) ≡ slice_cmp nat_cmp (drop l.from l.a) (drop l.from l.b)
