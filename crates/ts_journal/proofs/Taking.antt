-- Accepted pieces, one after another.
use Rattle.std.proofs.Common.{◌≡◌, ℕ, ◌+◌, min, Bool, true, false, if◌then◌else◌, List, ◌∷◌, length, refl, arith}
use Rattle.ts_journal.specs.Lines.{after_line, begins_number, accepted_pieces, words_in}

pub words-first : (items piece : List ℕ) (others : List (List ℕ))
    → words_in (accepted_pieces items (piece ∷ others)) ≡ (if begins_number items then min 3 (length piece) else 0) + words_in (accepted_pieces (after_line items) others)
words-first items piece others = go (begins_number items)
  where
    go : (b : Bool) → words_in (if b then piece ∷ accepted_pieces (after_line items) others else accepted_pieces (after_line items) others)
        ≡ (if b then min 3 (length piece) else 0) + words_in (accepted_pieces (after_line items) others)
    go true = refl
    go false = omega arith
