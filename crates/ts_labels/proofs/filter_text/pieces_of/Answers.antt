use Rattle.std.proofs.Common.{◌≡◌, ℕ, List, [], ◌∷◌, ◌++◌, sym, ◌∙◌, ap, append_assoc}
use Rattle.ts_spec.specs.FilterText.{comma, pieces}
use Rattle.ts_labels.proofs.TextLemmas.{first_piece, only_piece, cut_at-shorter}
use Rattle.ts_labels.proofs.filter_text.pieces_of.Goals as goal

pub loop-piece-smaller : goal.loop-piece-smaller
loop-piece-smaller c = cut_at-shorter comma c.loop-piece.rest.now c.in-Some.piece.now c.in-Some.after.now (sym c.in-Some.ensures)

pub loop-piece-preserved : goal.loop-piece-preserved
loop-piece-preserved c =
    let values = c.loop-piece.values.items in
    let more : List (List ℕ) = pieces comma c.in-Some.after.now in
    let added : c.add.new.values.items ≡ values ++ c.in-Some.piece.now ∷ [] = c.in_ok-add.ensures.ok ∙ ap (λ (word : List ℕ). values ++ word ∷ []) c.in_ok-word.ensures.ok in
    ap (λ (front : List (List ℕ)). front ++ more) added
    ∙ append_assoc values (c.in-Some.piece.now ∷ []) more
    ∙ ap (λ (back : List (List ℕ)). values ++ back) (sym (first_piece comma c.loop-piece.rest.now c.in-Some.piece.now c.in-Some.after.now c.in-Some.ensures))
    ∙ c.loop-piece.invariant

pub returns-clause-ok : goal.returns-clause-ok
returns-clause-ok c =
    let values = c.loop-piece.values.items in
    c.in_ok-add-2.ensures.ok
    ∙ ap (λ (word : List ℕ). values ++ word ∷ []) c.in_ok-word-2.ensures.ok
    ∙ ap (λ (back : List (List ℕ)). values ++ back) (sym (only_piece comma c.loop-piece.rest.now c.in_default.ensures))
    ∙ c.loop-piece.invariant
