-- Checks a table of powers of ten in one pass.
use Rattle.std.proofs.Common.{◌≡◌, ℕ, zero, suc, ◌+◌, ◌*◌, ◌^◌, ◌<◌, Bool, true, false, ◌&&◌, List, [], ◌∷◌, length, get_or, ap, ◌∙◌, zero-add, arith}
use Rattle.std.specs.Prelude.{◌==◌}
use Rattle.std.proofs.Math.Nat.{pow-suc}

-- whether each number of the list is ten times the one before it, and the first is p
abbrev pub are_powers : ℕ → List ℕ → Bool
are_powers p [] = true
are_powers p (x ∷ xs) = (x == p) && are_powers (p * 10) xs

and_right : (a b : Bool) → (a && b) ≡ true → b ≡ true
and_right true b h = h
and_right false b h = cc

pub power_at : (j k : ℕ) (xs : List ℕ) → are_powers (10 ^ j) xs ≡ true → k < length xs → get_or xs k 0 ≡ 10 ^ (j + k)
power_at j k [] test within = grind arith
power_at j zero (x ∷ xs) test within = grind arith
power_at j (suc k) (x ∷ xs) test within =
    let rest : are_powers (10 ^ suc j) xs ≡ true = rw pow-suc (and_right (x == 10 ^ j) _ test) in
    power_at (suc j) k xs rest (omega arith) ∙ ap (λ e. 10 ^ e) (omega arith)

pub table_at : (k : ℕ) (xs : List ℕ) → are_powers 1 xs ≡ true → k < length xs → get_or xs k 0 ≡ 10 ^ k
table_at k xs test within = power_at 0 k xs test within ∙ ap (λ e. 10 ^ e) (zero-add k)
