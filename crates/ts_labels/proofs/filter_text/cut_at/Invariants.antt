use Rattle.std.proofs.Common.{◌≡◌, take, drop}
use Rattle.ts_spec.specs.FilterText.{cut_at}
use Rattle.ts_labels.proofs.TextLemmas.{onto_cut}
use Rattle.ts_labels.proofs.filter_text.cut_at.Given as goal

-- none of the bytes so far is the separator
abbrev pub invariant-loop-index : goal.invariant-loop-index
invariant-loop-index l = onto_cut (take l.index l.bytes) (cut_at l.byte (drop l.index l.bytes)) ≡ cut_at l.byte l.bytes
