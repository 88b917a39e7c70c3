-- The steps over many keys, added up.
use Rattle.std.proofs.Common.{◌≡◌, ℕ, ◌+◌, ◌≤◌, List, [], ◌∷◌, subst, arith}
use Rattle.std.specs.Prelude.{sum_by, Some}
use Rattle.std.proofs.lemmas.List.Sums.{sum_by-cons}
use Rattle.ts_spec.specs.Key.{Key}
use Rattle.ts_spec.specs.Keyed.{Keyed, get}
use Rattle.ts_sample.specs.declared.sample.Id.{Id}
use Rattle.ts_db.specs.DbState.{AreIdsOf}

module _ (most : Key → ℕ) (ids : Keyed Id) (keys : List Key) where
  -- of the keys whose numbers are left no steps were taken, and of the others no more than is allowed
  pub record Left (rest : List Id) (old now : ℕ) : Type 0 where
    pub left : List Key
    pub numbers : AreIdsOf ids left rest
    pub few : now + sum_by most left ≤ old + sum_by most keys

  pub left-all : (ns : List Id) (now : ℕ) → AreIdsOf ids keys ns → Left ns now now
  left-all ns now are = record { left = keys; numbers = are; few = omega arith }

  -- one key more
  pub left-less : (id : Id) (rest more : List Id) (old now new : ℕ) → rest ≡ id ∷ more → Left rest old now → ((key : Key) → get key ids ≡ Some id → new ≤ now + most key) → Left more old new
  left-less id rest more old now new split is one = pick is.left (subst (AreIdsOf ids is.left) split is.numbers) is.few
    where
      pick : (left : List Key) → AreIdsOf ids left (id ∷ more) → now + sum_by most left ≤ old + sum_by most keys → Left more old new
      pick [] are few = absurd are
      pick (k ∷ ks) are few = record { left = ks; numbers = are.1; few = omega (arith, few, one k are.0, sum_by-cons most k ks) }

  pub left-few : (rest : List Id) (old now : ℕ) → Left rest old now → now ≤ old + sum_by most keys
  left-few rest old now is = omega (arith, is.few)

-- nothing is taken of any key
pub sum-none : (keys : List Key) → sum_by (λ (key : Key). 0) keys ≡ 0
sum-none [] = omega arith
sum-none (k ∷ ks) = omega (arith, sum_by-cons (λ (key : Key). 0) k ks, sum-none ks)
