-- The summary of any values passes the test.
use Rattle.std.proofs.Common.{◌≡◌, ℕ, suc, ◌-◌, ◌≤◌, List, [], ◌∷◌, ◌++◌, length, fold, ◌⊎◌, inl, inr, refl, sym, ap, ◌∙◌, subst, arith, ◌+ℤ◌, ◌≤ℤ◌}
use Rattle.std.specs.Prelude.{ℤ}
use Rattle.std.proofs.lemmas.Int.{ints}
use Rattle.ts_spec.specs.Aggregate.{Summary, nothing}
use Rattle.ts_restore.specs.Summaries.{times, middle, IsSpread, IsExactBy, IsExact, HasLeast, HasGreatest}
use Rattle.ts_restore.proofs.PushedValues.{push_value, AllFrom, AllTo, Has, total, fold-count, fold-sum, fold-first, fold-last}
use Rattle.ts_restore.proofs.LeastGreatest.{least-below, greatest-above, least-there, greatest-there, total-from, total-to, few-least, few-greatest}
use Rattle.ts_restore.proofs.Fillings.{total-append, length-append_one}

-- ---- lists with a last value

from-parts : (l z : ℤ) (vs : List ℤ) → AllFrom l (vs ++ z ∷ []) → AllFrom l vs × (l ≤ℤ z)
from-parts l z [] all = (tt, all.0)
from-parts l z (v ∷ vs) all = (let r = from-parts l z vs all.1 in ((all.0, r.0), r.1))

to-parts : (g z : ℤ) (vs : List ℤ) → AllTo g (vs ++ z ∷ []) → AllTo g vs × (z ≤ℤ g)
to-parts g z [] all = (tt, all.0)
to-parts g z (v ∷ vs) all = (let r = to-parts g z vs all.1 in ((all.0, r.0), r.1))

has-parts : (y z : ℤ) (vs : List ℤ) → Has y (vs ++ z ∷ []) → (z ≡ y) ⊎ Has y vs
has-parts y z [] (inl e) = inl e
has-parts y z [] (inr x) = absurd x
has-parts y z (v ∷ vs) (inl e) = inr (inl e)
has-parts y z (v ∷ vs) (inr h) = go (has-parts y z vs h)
  where
    go : (z ≡ y) ⊎ Has y vs → (z ≡ y) ⊎ Has y (v ∷ vs)
    go (inl e) = inl e
    go (inr x) = inr (inr x)

module _ (v : ℤ) (inner : List ℤ) (z : ℤ) where
  abbrev one : Summary
  one = push_value nothing v

  abbrev all : Summary
  all = fold push_value one (inner ++ z ∷ [])

  some : 1 ≤ one.count
  some = omega arith

  first-is : all.first ≡ v
  first-is = fold-first one (inner ++ z ∷ []) some

  last-is : all.last ≡ z
  last-is = fold-last one inner z

  middle-is : middle all ≡ total inner
  middle-is = omega (arith, ints, fold-sum one (inner ++ z ∷ []), total-append z inner, first-is, last-is)

  low : (all.least ≤ℤ v) × AllFrom all.least (inner ++ z ∷ [])
  low = least-below one (inner ++ z ∷ []) some

  high : (v ≤ℤ all.greatest) × AllTo all.greatest (inner ++ z ∷ [])
  high = greatest-above one (inner ++ z ∷ []) some

  inner-low : AllFrom all.least inner × (all.least ≤ℤ z)
  inner-low = from-parts all.least z inner low.1

  inner-high : AllTo all.greatest inner × (z ≤ℤ all.greatest)
  inner-high = to-parts all.greatest z inner high.1

  spread : IsSpread (length inner) all
  spread = record {
    ordered = record {
      first_from = subst (λ (x : ℤ). all.least ≤ℤ x) (sym first-is) low.0;
      first_to = subst (λ (x : ℤ). x ≤ℤ all.greatest) (sym first-is) high.0;
      last_from = subst (λ (x : ℤ). all.least ≤ℤ x) (sym last-is) inner-low.1;
      last_to = subst (λ (x : ℤ). x ≤ℤ all.greatest) (sym last-is) inner-high.1;
    };
    reachable = record {
      from = subst (λ (x : ℤ). times (length inner) all.least ≤ℤ x) (sym middle-is) (total-from all.least inner inner-low.0);
      to = subst (λ (x : ℤ). x ≤ℤ times (length inner) all.greatest) (sym middle-is) (total-to all.greatest inner inner-high.0);
    };
    has_least = at-least (least-there one (inner ++ z ∷ []) some);
    has_greatest = at-greatest (greatest-there one (inner ++ z ∷ []) some);
  }
    where
      inner-least : (z ≡ all.least) ⊎ Has all.least inner → (all.last ≡ all.least) ⊎ ((1 ≤ length inner) × (middle all ≤ℤ (all.least +ℤ times (length inner - 1) all.greatest)))
      inner-least (inl e) = inl (last-is ∙ e)
      inner-least (inr h) =
          let r = few-least all.least all.greatest inner inner-high.0 h in
          let e : r.0 ≡ length inner - 1 = omega (arith, r.1) in
          inr (omega (arith, r.1), subst (λ (k : ℕ). middle all ≤ℤ (all.least +ℤ times k all.greatest)) e (subst (λ (x : ℤ). x ≤ℤ (all.least +ℤ times r.0 all.greatest)) (sym middle-is) r.2))

      at-least : (all.least ≡ one.least) ⊎ Has all.least (inner ++ z ∷ []) → HasLeast (length inner) all
      at-least (inl e) = inl (first-is ∙ sym e)
      at-least (inr h) = inr (inner-least (has-parts all.least z inner h))

      inner-greatest : (z ≡ all.greatest) ⊎ Has all.greatest inner → (all.last ≡ all.greatest) ⊎ ((1 ≤ length inner) × ((all.greatest +ℤ times (length inner - 1) all.least) ≤ℤ middle all))
      inner-greatest (inl e) = inl (last-is ∙ e)
      inner-greatest (inr h) =
          let r = few-greatest all.least all.greatest inner inner-low.0 h in
          let e : r.0 ≡ length inner - 1 = omega (arith, r.1) in
          inr (omega (arith, r.1), subst (λ (k : ℕ). (all.greatest +ℤ times k all.least) ≤ℤ middle all) e (subst (λ (x : ℤ). (all.greatest +ℤ times r.0 all.least) ≤ℤ x) (sym middle-is) r.2))

      at-greatest : (all.greatest ≡ one.greatest) ⊎ Has all.greatest (inner ++ z ∷ []) → HasGreatest (length inner) all
      at-greatest (inl e) = inl (first-is ∙ sym e)
      at-greatest (inr h) = inr (inner-greatest (has-parts all.greatest z inner h))

  exact-more : IsExact all
  exact-more =
      let count : all.count ≡ suc (suc (length inner)) = omega (arith, fold-count one (inner ++ z ∷ []), length-append_one z inner) in
      subst (λ (n : ℕ). IsExactBy n all) (sym count) spread

-- a list that is not empty ends in a value
snoc : (w : ℤ) (ws : List ℤ) → (inner : List ℤ) × (z : ℤ) × (w ∷ ws ≡ inner ++ z ∷ [])
snoc w [] = ([], w, refl)
snoc w (x ∷ ws) = (let r = snoc x ws in (w ∷ r.0, r.1, ap (λ (l : List ℤ). w ∷ l) r.2))

-- The summary of any values passes the test.
pub exact-summary : (vs : List ℤ) → IsExact (fold push_value nothing vs)
exact-summary [] = record { sum = refl; least = refl; greatest = refl; first = refl; last = refl }
exact-summary (v ∷ []) = record { sum = omega (arith, ints); least = refl; greatest = refl; first = refl; last = refl }
exact-summary (v ∷ w ∷ ws) = (let r = snoc w ws in subst (λ (l : List ℤ). IsExact (fold push_value (push_value nothing v) l)) (sym r.2) (exact-more v r.0 r.1))
