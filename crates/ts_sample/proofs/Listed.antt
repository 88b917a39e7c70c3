-- Membership in ascending numbers, by binary search.
use Rattle.std.proofs.Common.{◌≡◌, ℕ, ◌<◌, ◌≤◌, false, List, [], ◌∷◌, length, get_or, refl, sym, ◌∙◌, ap, eqb, arith, inl, inr, ne_eqb, eq-eqb}
use Rattle.std.specs.List.{list_any, All}
use Rattle.std.specs.List.Sorted.{IsNonDecreasing, IsBinarySearchResult}
use Rattle.std.specs.Ordering.{nat_cmp}
use Rattle.std.specs.Prelude.{Result, Ok, Err, is_ok, ◌||◌, MatchResult}
use Rattle.std.proofs.lemmas.List.{get_or_default}
use Rattle.std.proofs.lemmas.List.Sorted.{searched}
use Rattle.std.proofs.lemmas.List.Folds.{list_any_at, list_any_none}
use Rattle.std.proofs.lemmas.Bool.{cases_lt}
use Rattle.ts_spec.specs.Answer.{contains_time}

-- the same by any test
pub listed-any : (us : List ℕ) (t : ℕ) → contains_time us t ≡ list_any (λ u. eqb u t) us
listed-any [] t = refl
listed-any (u ∷ us) t = ap (λ b. eqb u t || b) (listed-any us t)

-- the index of a number among the others, or its insertion index
abbrev Found : List ℕ → ℕ → Result ℕ ℕ → Type 0
Found us t r =
    MatchResult r (λ i. (i < length us) × (get_or us i 0 ≡ t))
    (λ i. (i ≤ length us) × ((k : ℕ) → k < i → get_or us k 0 < t) × ((k : ℕ) → i ≤ k → k < length us → t < get_or us k 0))

other : (us : List ℕ) (t i : ℕ) → ((k : ℕ) → k < i → get_or us k 0 < t) → ((k : ℕ) → i ≤ k → k < length us → t < get_or us k 0) → All (λ u. eqb u t ≡ false) us
other us t i below above k d within =
    let same = get_or_default us k d 0 within in
    elim (cases_lt k i) [
      | inl less ↦ ne_eqb (get_or us k d) t (λ is. absurd (omega (arith, below k less, same, is)))
      | inr more ↦ ne_eqb (get_or us k d) t (λ is. absurd (omega (arith, above k more within, same, is)))
    ]

-- a number between two neighbours is not in the list
pub unlisted : (us : List ℕ) (t i : ℕ) → ((k : ℕ) → k < i → get_or us k 0 < t) → ((k : ℕ) → i ≤ k → k < length us → t < get_or us k 0) → contains_time us t ≡ false
unlisted us t i below above = listed-any us t ∙ list_any_none (λ u. eqb u t) us (other us t i below above)

told : (us : List ℕ) (t : ℕ) (r : Result ℕ ℕ) → Found us t r → is_ok r ≡ contains_time us t
told us t (Ok i) found = sym (listed-any us t ∙ list_any_at (λ u. eqb u t) us i 0 found.0 (eq-eqb (get_or us i 0) t found.1))
told us t (Err i) found = sym (unlisted us t i found.1 found.2)

-- a binary search decides it
pub listed-by-search : (us : List ℕ) (t : ℕ) (r : Result ℕ ℕ) → IsNonDecreasing us → IsBinarySearchResult (λ u. nat_cmp u t) us r → is_ok r ≡ contains_time us t
listed-by-search us t r rising found = told us t r (searched us t r found (λ i j le within. rising i j 0 le within))
