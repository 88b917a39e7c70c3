use Rattle.std.proofs.Common.{◌≡◌, drop}
use Rattle.ts_spec.specs.Filter.{has_positive}
use Rattle.ts_labels.proofs.filter.has_positive.Given as goal

-- none of the filters so far requires a value
abbrev pub invariant-loop-filter : goal.invariant-loop-filter
invariant-loop-filter l = has_positive (drop l.filter-index l.filters) ≡ has_positive l.filters
