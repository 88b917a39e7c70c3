-- Lists of distinct ids: their length, and their reorderings.
use Rattle.std.proofs.Common.{◌≡◌, ℕ, ◌==◌, ◌||◌, Bool, true, false, List, [], ◌∷◌, map, refl, sym, ◌∙◌, ap, subst}
use Rattle.std.proofs.lemmas.Bool.{false≢true}
use Rattle.std.proofs.lemmas.List.Sorted.{IsPermutation-map}
use Rattle.std.proofs.lemmas.Map.Keys.{IsDistinct-IsPermutation}
use Rattle.std.specs.BTreeMap.{is_at}
use Rattle.std.specs.Cmp.{IsEquivalence, nat_eq_equiv}
use Rattle.std.specs.List.{AllByRecursion, IsDistinct}
use Rattle.std.specs.List.Sorted.{IsPermutation}
use Rattle.std.specs.Ordering.{nat_cmp}
use Rattle.ts_sample.specs.declared.sample.Id.{Id}
use Rattle.ts_index.specs.Numbers.{has_id}
use Rattle.ts_index.specs.Candidates.{AreApart}
use Rattle.ts_index.proofs.NumberLemmas.{is_at-number}

-- equality as the map has it
abbrev alike_numbers : ℕ → ℕ → Bool
alike_numbers q = is_at (nat_cmp q)

abbrev numbers : List Id → List ℕ
numbers is = map (λ i. i.0) is

alike-laws : IsEquivalence alike_numbers
alike-laws = subst IsEquivalence (λ i q k. sym (is_at-number q k) i) nat_eq_equiv

pub neither : (a b : Bool) → (a || b) ≡ false → (a ≡ false) × (b ≡ false)
neither true b h = absurd (false≢true (sym h))
neither false b h = (refl, h)

none_alike : (n : ℕ) (is : List Id) → has_id n is ≡ false → AllByRecursion (λ k. alike_numbers n k ≡ false) (numbers is)
none_alike n [] h = tt
none_alike n (i ∷ is) h =
    let both = neither (n == i.0) (has_id n is) h in
    (is_at-number n i.0 ∙ both.0, none_alike n is both.1)

alike_none : (n : ℕ) (is : List Id) → AllByRecursion (λ k. alike_numbers n k ≡ false) (numbers is) → has_id n is ≡ false
alike_none n [] h = refl
alike_none n (i ∷ is) h = ap (λ b. b || has_id n is) (sym (is_at-number n i.0) ∙ h.0) ∙ alike_none n is h.1

distinct : (is : List Id) → AreApart is → IsDistinct alike_numbers (numbers is)
unfolding IsDistinct
distinct [] a = tt
distinct (i ∷ is) a = (none_alike i.0 is a.0, distinct is a.1)

apart : (is : List Id) → IsDistinct alike_numbers (numbers is) → AreApart is
unfolding IsDistinct
apart [] a = tt
apart (i ∷ is) a = (alike_none i.0 is a.0, apart is a.1)

-- none is twice in another order either
pub apart-permuted : (xs ys : List Id) → IsPermutation xs ys → AreApart xs → AreApart ys
apart-permuted xs ys p a =
    apart ys (IsDistinct-IsPermutation alike_numbers alike-laws.symm (numbers xs) (numbers ys) (IsPermutation-map (λ i. i.0) xs ys p) (distinct xs a))
