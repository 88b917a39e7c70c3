use Rattle.std.proofs.Common.{◌≡◌, take}
use Rattle.ts_labels.proofs.values.copies.Given as goal

-- the first values are copied
abbrev pub invariant-loop-value : goal.invariant-loop-value
invariant-loop-value l = l.copies.items ≡ take l.value-index l.values
