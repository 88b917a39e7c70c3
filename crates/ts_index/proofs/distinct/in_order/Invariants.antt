use Rattle.std.proofs.Common.{◌≡◌, take}
use Rattle.ts_index.specs.Selecting.{lent}
use Rattle.ts_index.proofs.distinct.in_order.Given as goal

-- the first filters are borrowed
abbrev pub invariant-loop-filter : goal.invariant-loop-filter
invariant-loop-filter l = lent l.sorted.items ≡ take l.filter-index l.filters
