use Rattle.std.proofs.Common.{◌≡◌, length}
use Rattle.ts_spec.specs.FilterText.{comma, pieces, has_empty}
use Rattle.ts_labels.proofs.filter_text.has_empty_piece.Given as goal

-- no piece so far is empty
abbrev pub invariant-loop-piece : goal.invariant-loop-piece
invariant-loop-piece l = has_empty (pieces comma l.rest) ≡ has_empty (pieces comma l.list)

abbrev pub decreases-loop-piece : goal.decreases-loop-piece
decreases-loop-piece l = length l.rest
