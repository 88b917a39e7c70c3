-- How the counts of bytes grow.
use Rattle.std.proofs.Common.{◌≡◌, ℕ, ◌+◌, ◌-◌, ◌^◌, ◌≤◌, min, slice_index_or, List, [], ◌∷◌, ◌++◌, length, length-append, Option, None, Some, refl, sym, ◌∙◌, ap, arith}
use Rattle.std.specs.List.{last_or}
use Rattle.ts_io.specs.Counts.{Counts, counts_of, error_marks_after}
use Rattle.ts_io.specs.Sinks.{Grows}

-- the marks of a prefix, and of the rest after its last byte
marks_append : (before : Option ℕ) (xs ys : List ℕ) → error_marks_after before (xs ++ ys) ≡ error_marks_after before xs + error_marks_after (last_or before xs) ys
marks_append before [] ys = omega arith
marks_append before (x ∷ xs) ys = let rest : error_marks_after (Some x) (xs ++ ys) ≡ error_marks_after (Some x) xs + error_marks_after (last_or (Some x) xs) ys = marks_append (Some x) xs ys in omega arith

last_append : (before : Option ℕ) (xs ys : List ℕ) → last_or before (xs ++ ys) ≡ last_or (last_or before xs) ys
last_append before [] ys = refl
last_append before (x ∷ xs) ys = last_append (Some x) xs ys

-- equal counts
counts_equal : (c d : Counts) → c.total ≡ d.total → c.errors ≡ d.errors → c.last ≡ d.last → c ≡ d
counts_equal c d total errors last = λ i. record { total = total i; errors = errors i; last = last i }

-- the counts of bytes followed by more
pub counts_grow : (old new : Counts) (bytes : List ℕ)
    → new.total ≡ min (old.total + length bytes) (2 ^ 64 - 1)
    → new.errors ≡ min (old.errors + error_marks_after old.last bytes) (2 ^ 64 - 1)
    → new.last ≡ last_or old.last bytes
    → Grows (λ w. old ≡ counts_of w) (λ w. new ≡ counts_of w) bytes
counts_grow old new bytes total errors last = record { each = each }
  where
    each : (w : List ℕ) → old ≡ counts_of w → new ≡ counts_of (w ++ bytes)
    each w had =
        let t : old.total ≡ min (length w) (2 ^ 64 - 1) = ap (λ (c : Counts). c.total) had in
        let e : old.errors ≡ min (error_marks_after None w) (2 ^ 64 - 1) = ap (λ (c : Counts). c.errors) had in
        let l : old.last ≡ last_or None w = ap (λ (c : Counts). c.last) had in
        let marked : error_marks_after None (w ++ bytes) ≡ error_marks_after None w + error_marks_after (last_or None w) bytes = marks_append None w bytes in
        let same : error_marks_after old.last bytes ≡ error_marks_after (last_or None w) bytes = ap (λ (o : Option ℕ). error_marks_after o bytes) l in
        counts_equal new (counts_of (w ++ bytes))
        (omega (arith, t, total, length-append w bytes))
        (omega (arith, e, errors, marked, same))
        (last ∙ ap (λ (o : Option ℕ). last_or o bytes) l ∙ sym (last_append None w bytes))

-- the last byte of a list that is not empty
pub last_is : (before : Option ℕ) (xs : List ℕ) → 1 ≤ length xs → last_or before xs ≡ Some (slice_index_or xs (length xs - 1) 0)
last_is before [] some = absurd (omega arith)
last_is before (x ∷ []) some = refl
last_is before (x ∷ y ∷ xs) some =
    let deeper : slice_index_or (x ∷ y ∷ xs) (length (x ∷ y ∷ xs) - 1) 0 ≡ slice_index_or (y ∷ xs) (length (y ∷ xs) - 1) 0 = grind arith in
    last_is (Some x) (y ∷ xs) (omega arith) ∙ ap (λ (b : ℕ). Some b) (sym deeper)
