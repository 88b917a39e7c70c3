use Rattle.std.proofs.Common.{sym, ◌∙◌, ap}
use Rattle.ts_spec.specs.FilterText.{comma, pieces, has_empty}
use Rattle.ts_labels.proofs.TextLemmas.{first_piece, only_piece, cut_at-shorter, has_empty-first, has_empty-later, has_empty-one}
use Rattle.ts_labels.proofs.filter_text.has_empty_piece.Goals as goal

pub returns-then-is_empty : goal.returns-then-is_empty
returns-then-is_empty c =
    sym (sym c.loop-piece.invariant ∙ ap has_empty (first_piece comma c.loop-piece.rest.now c.in-Some.piece.now c.in-Some.after.now c.in-Some.ensures)
    ∙ has_empty-first c.in-Some.piece.now (pieces comma c.in-Some.after.now) (sym c.is_empty.ensures ∙ c.if-is_empty.true))

pub loop-piece-smaller : goal.loop-piece-smaller
loop-piece-smaller c = cut_at-shorter comma c.loop-piece.rest.now c.in-Some.piece.now c.in-Some.after.now (sym c.in-Some.ensures)

pub loop-piece-preserved : goal.loop-piece-preserved
loop-piece-preserved c =
    sym (has_empty-later c.in-Some.piece.now (pieces comma c.in-Some.after.now) (sym c.is_empty.ensures ∙ c.if-is_empty.false))
    ∙ sym (ap has_empty (first_piece comma c.loop-piece.rest.now c.in-Some.piece.now c.in-Some.after.now c.in-Some.ensures))
    ∙ c.loop-piece.invariant

pub returns : goal.returns
returns c = c.is_empty-2.ensures ∙ sym (has_empty-one c.loop-piece.rest.now) ∙ sym (ap has_empty (only_piece comma c.loop-piece.rest.now c.in_default.ensures)) ∙ c.loop-piece.invariant
