-- Sorted lists of distinct ids.
use Rattle.std.proofs.Common.{◌≡◌, ℕ, suc, ◌<◌, ◌≤◌, ◌==◌, false, List, [], ◌∷◌, refl, sym, ◌∙◌, arith, eq-eqb}
use native.Mathlib.Numerals.{unary_clauses}
use Rattle.std.proofs.lemmas.Bool.{false≢true}
use Rattle.std.proofs.lemmas.Cmp.{ranked}
use Rattle.std.specs.List.Sorted.{IsSorted}
use Rattle.std.specs.Ordering.{nat_cmp, is_lt}
use Rattle.std.specs.declared.cmp.Ordering.{Ordering}
use Rattle.std.specs.declared.cmp.Ordering.TheVariants.{Less, Equal, Greater}
use Rattle.ts_sample.specs.declared.sample.Id.{Id}
use Rattle.ts_index.specs.Numbers.{AreAscending, has_id}
use Rattle.ts_index.specs.Candidates.{AreApart}
use Rattle.ts_index.proofs.ApartLemmas.{neither}
use Rattle.ts_index.proofs.MemberLemmas.{chained}

-- what is not less
not_less : (a b : ℕ) (o : Ordering) → o ≡ nat_cmp a b → is_lt o ≡ false → b ≤ a
not_less a b Less e h = absurd (false≢true (sym h))
not_less a b Equal e h = let same : a ≡ b = ranked a b Equal e in omega arith
not_less a b Greater e h = let less : b < a = ranked a b Greater e in omega arith

-- each is no greater than the next
abbrev pub AreSorted : List Id → Type 0
AreSorted is = IsSorted (λ i j. nat_cmp i.0 j.0) is

-- sorted, and none twice: ascending
pub ascending : (is : List Id) → AreSorted is → AreApart is → AreAscending is
ascending [] s a = tt
ascending (i ∷ []) s a = (tt, tt)
ascending (i ∷ x ∷ is) s a =
    let le : i.0 ≤ x.0 = not_less x.0 i.0 (nat_cmp x.0 i.0) refl (s 0 i (omega arith) (omega arith)) in
    let rest : AreAscending (x ∷ is) = ascending (x ∷ is) (tail s) a.1 in
    let less : i.0 < x.0 = by le (neither (i.0 == x.0) (has_id i.0 is) a.0).0 in
    ((less, chained i.0 x.0 is less rest.0), rest)
  where
    tail : AreSorted (i ∷ x ∷ is) → AreSorted (x ∷ is)
    tail s k d l m =
        let rest = simp unary_clauses at (s (suc k) d (omega arith) (omega arith)) in
        simp unary_clauses rest

    by : i.0 ≤ x.0 → (i.0 == x.0) ≡ false → i.0 < x.0
    by le ne = omega (arith, le, (λ (e : i.0 ≡ x.0). false≢true (sym ne ∙ eq-eqb i.0 x.0 e)))
