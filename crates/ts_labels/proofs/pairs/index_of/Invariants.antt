use Rattle.std.proofs.Common.{◌≡◌, drop}
use Rattle.ts_spec.specs.Filter.{value_of}
use Rattle.ts_labels.specs.Labels.{labels_in}
use Rattle.ts_labels.proofs.pairs.index_of.Given as goal

-- none of the labels so far is it
abbrev pub invariant-loop-place : goal.invariant-loop-place
invariant-loop-place l = value_of l.label (labels_in (drop l.place l.pairs)) ≡ value_of l.label (labels_in l.pairs)
