use Rattle.std.proofs.Common.{◌≡◌, take}
use Rattle.ts_labels.specs.Labels.{labels_in}
use Rattle.ts_labels.proofs.pairs.hashed.Given as goal

-- the labels so far
abbrev pub invariant-loop-i : goal.invariant-loop-i
invariant-loop-i l = labels_in l.map.entries ≡ take l.i (labels_in l.pairs)
