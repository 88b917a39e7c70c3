use Rattle.std.proofs.Common.{◌≡◌, ◌++◌, length}
use Rattle.ts_spec.specs.FilterText.{comma, pieces}
use Rattle.ts_labels.proofs.filter_text.pieces_of.Given as goal

-- the values so far are the first pieces
abbrev pub invariant-loop-piece : goal.invariant-loop-piece
invariant-loop-piece l = l.values.items ++ pieces comma l.rest ≡ pieces comma l.list

abbrev pub decreases-loop-piece : goal.decreases-loop-piece
decreases-loop-piece l = length l.rest
