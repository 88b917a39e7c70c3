-- The labels of a series in the reply to TS.INFO, one after another.
use Rattle.std.proofs.Common.{◌≡◌, ℕ, zero, suc, List, [], ◌∷◌, ◌+◌, drop, slice_get, option_map, Some, refl}
use native.Mathlib.Numerals.{unary_clauses}
use Rattle.ts_spec.specs.State.{Label}

-- the next of the remaining labels
pub next_label : (ls : List Label) (i : ℕ) (name value : List ℕ)
    → option_map (λ l. l.name) (slice_get ls i) ≡ Some name → option_map (λ l. l.value) (slice_get ls i) ≡ Some value
    → drop i ls ≡ record { name = name; value = value } ∷ drop (i + 1) ls
next_label [] i name value e f = cc
next_label (l ∷ ls) zero name value e f =
    let n : l.name ≡ name = cc in
    let v : l.value ≡ value = cc in
    rw (n, v) refl
next_label (l ∷ ls) (suc i) name value e f = simp unary_clauses (simp unary_clauses at (next_label ls i name value e f))
