-- Lemmas about maps from numbers: two keys are equal or different.
use Rattle.std.proofs.Common.{◌≡◌, ℕ, Bool, true, false, ◌==◌, refl, sym, ap, ◌∙◌, cond, nat_lt, Less, Equal, Greater}
use Rattle.std.proofs.lemmas.Bool.{eqb-true, eqb-false}
use Rattle.std.specs.Ordering.{is_eq, nat_cmp}

-- equality of numbers is symmetric
pub apart-sym : (x y : ℕ) → (x == y) ≡ false → (y == x) ≡ false
apart-sym x y e = go (y == x) refl
  where
    go : (test : Bool) → (y == x) ≡ test → test ≡ false
    go true same = absurd (eqb-false x y e (sym (eqb-true y x same)))
    go false same = refl

pub other_key : (link at : ℕ) → (at == link) ≡ false → is_eq (nat_cmp link at) ≡ false
other_key link at apart = ap (λ same. is_eq (cond (nat_lt link at) Less (cond same Equal Greater))) (apart-sym at link apart) ∙ go (nat_lt link at)
  where
    go : (less : Bool) → is_eq (cond less Less Greater) ≡ false
    go true = refl
    go false = refl
