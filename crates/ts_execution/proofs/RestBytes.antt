-- The first byte of the rest of a piece.
use Rattle.std.proofs.Common.{◌≡◌, ℕ, zero, suc, ◌<◌, ◌≤◌, true, ◌==◌, List, [], ◌∷◌, length, drop, slice_index, refl, sym, ap, arith}
use Rattle.std.proofs.lemmas.List.{drop_all}
use Rattle.ts_journal.specs.Loading.{begins_as_record}

-- the piece ends before it
pub begins_past : (at : ℕ) (piece : List ℕ) → length piece ≤ at → true ≡ begins_as_record (drop at piece)
begins_past at piece past = sym (ap begins_as_record (drop_all at piece past))

-- it is in the piece
pub begins_at : (at : ℕ) (piece : List ℕ) → at < length piece → (slice_index piece at == 42) ≡ begins_as_record (drop at piece)
begins_at at [] less = absurd (omega (arith, less))
begins_at zero (byte ∷ piece) less = refl
begins_at (suc at) (byte ∷ piece) less = begins_at at piece (omega (arith, less))
