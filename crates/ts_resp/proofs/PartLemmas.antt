-- Parts of a list.
use Rattle.std.proofs.Common.{◌≡◌, ℕ, zero, suc, ◌-◌, ◌≤◌, List, [], ◌∷◌, length, take, drop, slice_range, refl, ap, ◌∙◌, arith}

-- the front of a longer front
take-front : (n m : ℕ) (xs : List ℕ) → n ≤ m → take n (take m xs) ≡ take n xs
take-front zero m xs le = refl
take-front (suc n) zero xs le = absurd (omega arith)
take-front (suc n) (suc m) [] le = refl
take-front (suc n) (suc m) (x ∷ xs) le = ap (λ rest. x ∷ rest) (take-front n m xs (omega arith))

-- a part, from the bytes that stand at its beginning and after it
pub part_of_front : (xs front : List ℕ) (start end room : ℕ) → start ≤ end → end ≤ length xs → end - start ≤ room
    → front ≡ take room (take (length xs - start) (drop start xs)) → take (end - start) front ≡ slice_range xs start end
part_of_front xs front start end room le within fits e =
    ap (take (end - start)) e
    ∙ take-front (end - start) room (take (length xs - start) (drop start xs)) fits
    ∙ take-front (end - start) (length xs - start) (drop start xs) (omega arith)
