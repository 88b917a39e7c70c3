-- Sums over an ascending list of keys, after inserting one more.
use Rattle.std.proofs.Common.{◌≡◌, ◌+◌, ◌||◌, ℕ, Bool, false, List, [], ◌∷◌, inl, inr, refl, ap, sym, ◌∙◌, subst, arith}
use Rattle.std.specs.Prelude.{sum_by}
use Rattle.std.specs.declared.cmp.Ordering.{Ordering}
use Rattle.std.proofs.lemmas.List.Sums.{sum_by-cons}
use Rattle.ts_group.proofs.Ordered.{IsOrder, AreAfter, AreRising, has, apart, apart-back, three, put-before, put-here, put-past, after-earlier, none-before}

module _ {K : Type 0} {before same : K → K → Bool} {cmp : K → K → Ordering} {put : K → List K → List K} (o : IsOrder before same cmp put)
    (f g : K → ℕ) (a : K) (n : ℕ) (other : (k : K) → same a k ≡ false → g k ≡ f k) (here : g a ≡ n + f a) where
  sum-after : (ks : List K) → AreAfter o a ks → sum_by g ks ≡ sum_by f ks
  sum-after [] h = refl
  sum-after (k ∷ ks) h = omega (arith, sum_by-cons g k ks, sum_by-cons f k ks, other k (apart o a k h.0), sum-after ks h.1)

  -- what one key adds is added to the sum, where a key that is not there had nothing
  pub sum-put : (ks : List K) → AreRising o ks → (has o a ks ≡ false → f a ≡ 0) → sum_by g (put a ks) ≡ n + sum_by f ks
  sum-put [] h none = rw (o.put_nil a) (omega (arith, sum_by-cons g a [], here, none refl))
  sum-put (k ∷ ks) h none = elim (three o a k) [
    | inl e ↦
        let own : g k ≡ n + f k = subst (λ (b : K). g b ≡ n + f b) e here in
        let later : AreAfter o a ks = subst (λ (b : K). AreAfter o b ks) (sym e) h.0 in
        rw (put-here o a k ks e) (omega (arith, sum_by-cons g k ks, sum_by-cons f k ks, own, sum-after ks later))
    | inr (inl e) ↦
        let all : AreAfter o a (k ∷ ks) = (e, after-earlier o a k ks e h.0) in
        rw (put-before o a k ks e) (omega (arith, sum_by-cons g a (k ∷ ks), here, none (none-before o a (k ∷ ks) all), sum-after (k ∷ ks) all))
    | inr (inr e) ↦
        let rest = sum-put ks h.1 (λ d. none (ap (λ (b : Bool). b || has o a ks) (apart-back o a k e) ∙ d)) in
        rw (put-past o a k ks e) (omega (arith, sum_by-cons g k (put a ks), sum_by-cons f k ks, other k (apart-back o a k e), rest))
  ]
