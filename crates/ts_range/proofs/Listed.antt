-- Whether a time is in a list, in any order.
use Rattle.std.proofs.Common.{◌≡◌, ℕ, ◌-◌, ◌<◌, ◌≤◌, true, false, nat_lt, nat_le, List, length, get_or, sym, ◌∙◌, eqb, arith}
use Rattle.std.specs.List.Sorted.{IsPermutation, IsNonDecreasing, IsPartitionPoint}
use Rattle.std.proofs.lemmas.List.Sorted.{list_any-IsPermutation}
use Rattle.std.proofs.lemmas.Bool.Decides.{nat_tests}
use Rattle.ts_spec.specs.Answer.{contains_time}
use Rattle.ts_sample.proofs.Listed.{listed-any, unlisted}

-- the order of the times is nothing to it
pub listed_alike : (us vs : List ℕ) (t : ℕ) → IsPermutation us vs → contains_time vs t ≡ contains_time us t
listed_alike us vs t moved = listed-any vs t ∙ sym (list_any-IsPermutation (λ u. eqb u t) us vs moved) ∙ sym (listed-any us t)

is-less : (u t : ℕ) → nat_lt u t ≡ true → u < t
is-less u t is = grind (arith, nat_tests)

is-least : (u t : ℕ) → nat_lt u t ≡ false → t ≤ u
is-least u t is = grind (arith, nat_tests)

is-upto : (u t : ℕ) → nat_le u t ≡ true → u ≤ t
is-upto u t is = grind (arith, nat_tests)

is-past : (u t : ℕ) → nat_le u t ≡ false → t < u
is-past u t is = grind (arith, nat_tests)

module _ (us : List ℕ) (rising : IsNonDecreasing us) (i : ℕ) where
  -- where the first ones that are not before a time stand
  module _ (from : ℕ) (point : IsPartitionPoint (λ u. nat_lt u from ≡ true) (λ u. nat_lt u from ≡ false) us i) where
    pub first-is : i < length us → from ≤ get_or us i 0
    first-is within = is-least (get_or us i 0) from (point.1 i 0 (omega arith) within)

    pub before-first : (t : ℕ) → from ≤ t → (i < length us → t < get_or us i 0) → contains_time us t ≡ false
    before-first t le less =
        unlisted us t i (λ k low. let early = is-less (get_or us k 0) from (point.0 k 0 (omega arith) low) in omega arith)
        (λ k high within. let up : get_or us i 0 ≤ get_or us k 0 = rising i k 0 high within in let here = less (omega arith) in omega arith)

  -- how many are not past a time
  module _ (to : ℕ) (within : i ≤ length us) (point : IsPartitionPoint (λ u. nat_le u to ≡ true) (λ u. nat_le u to ≡ false) us i) where
    pub last-is : 0 < i → get_or us (i - 1) 0 ≤ to
    last-is some = is-upto (get_or us (i - 1) 0) to (point.0 (i - 1) 0 (omega arith) (omega arith))

    pub past-last : (t : ℕ) → t ≤ to → (0 < i → get_or us (i - 1) 0 < t) → contains_time us t ≡ false
    past-last t le less =
        unlisted us t i (λ k low. let up : get_or us k 0 ≤ get_or us (i - 1) 0 = rising k (i - 1) 0 (omega arith) (omega arith) in let here = less (omega arith) in omega arith)
        (λ k high inside. let late = is-past (get_or us k 0) to (point.1 k 0 high inside) in omega arith)
