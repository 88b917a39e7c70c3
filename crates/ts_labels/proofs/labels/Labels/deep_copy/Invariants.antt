use Rattle.std.proofs.Common.{◌≡◌, take}
use Rattle.ts_labels.proofs.labels.Labels.deep_copy.Given as goal

-- the labels so far
abbrev pub invariant-loop-i : goal.invariant-loop-i
invariant-loop-i l = l.deep_copy ≡ take l.i l.self
