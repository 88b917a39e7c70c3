-- The size of a variable-length number, and that it reads back.
use Rattle.std.specs.Prelude.{◌≡◌, ℕ, zero, suc, ◌+◌, ◌*◌, ◌/◌, ◌%◌, ◌^◌, ◌<◌, ◌≤◌, true, false, nat_lt, List, [], ◌∷◌, length}
use Rattle.std.proofs.Common.{inl, inr, refl, sym, ap, ◌∙◌, arith}
use Rattle.std.proofs.Math.Nat.{pow-suc}
use Rattle.std.proofs.lemmas.Bool.{cases_lt}
use Rattle.std.proofs.lemmas.Bool.Decides.{nat_tests}
use Rattle.ts_chunk_packed.specs.Packed.{groups, number}

is_small : (n : ℕ) → n < 128 → nat_lt n 128 ≡ true
is_small n small = grind (arith, nat_tests)

is_large : (n : ℕ) → 128 ≤ n → nat_lt n 128 ≡ false
is_large n large = grind (arith, nat_tests)

groups_small : (turns n : ℕ) → n < 128 → groups turns n ≡ n ∷ []
groups_small zero n small = refl
groups_small (suc turns) n small = rw (is_small n small)

groups_large : (turns n : ℕ) → 128 ≤ n → groups (suc turns) n ≡ (128 + n % 128) ∷ groups turns (n / 128)
groups_large turns n large = rw (is_large n large)

-- the result does not depend on `turns` if there are enough of them
groups_alike : (some more n : ℕ) → n ≤ some → n ≤ more → groups some n ≡ groups more n
groups_alike zero more n enough also = sym (groups_small more n (omega arith))
groups_alike (suc some) zero n enough also = groups_small (suc some) n (omega arith)
groups_alike (suc some) (suc more) n enough also = elim (cases_lt n 128) [
  | inl small ↦ groups_small (suc some) n small ∙ sym (groups_small (suc more) n small)
  | inr large ↦
      groups_large some n large ∙ ap (λ (l : List ℕ). (128 + n % 128) ∷ l) (groups_alike some more (n / 128) (omega arith) (omega arith))
      ∙ sym (groups_large more n large)
]

-- a number below 128 is a single byte
pub number-small : (n : ℕ) → n < 128 → number n ≡ n ∷ []
unfolding number
number-small n small = groups_small n n small

-- a larger number is its lowest seven bits, then the rest
pub number-large : (n : ℕ) → 128 ≤ n → number n ≡ (128 + n % 128) ∷ number (n / 128)
unfolding number
number-large zero large = absurd (omega arith)
number-large (suc n) large =
    groups_large n (suc n) large ∙ ap (λ (l : List ℕ). (128 + suc n % 128) ∷ l) (groups_alike n (suc n / 128) (suc n / 128) (omega arith) (omega arith))

-- a number takes at least one byte
pub some_bytes : (n : ℕ) → 1 ≤ length (number n)
some_bytes n = elim (cases_lt n 128) [
  | inl small ↦ omega (arith, ap length (number-small n small))
  | inr large ↦ omega (arith, ap length (number-large n large))
]

-- a number below 128 ^ k takes at most k bytes
pub most_bytes : (k n : ℕ) → n < 128 ^ suc k → length (number n) ≤ suc k
most_bytes zero n below = omega (arith, ap length (number-small n (omega arith)))
most_bytes (suc k) n below = elim (cases_lt n 128) [
  | inl small ↦ omega (arith, ap length (number-small n small))
  | inr large ↦
      let rest : n / 128 < 128 ^ suc k = (let whole : n < 128 ^ suc k * 128 = omega (arith, pow-suc 128 (suc k)) in omega arith) in
      omega (arith, ap length (number-large n large), most_bytes k (n / 128) rest)
]
