-- Zigzag coding and decoding.
use Rattle.std.proofs.Common.{◌≡◌, ℕ, suc, ◌-◌, ◌*◌, ◌/◌, ◌%◌, refl, ℤ, pos, negsuc, true, false, nat_eq, ap, ◌∙◌, inl, inr, arith}
use Rattle.std.specs.Prelude.{◌≤ℤ◌, ◌<ℤ◌, unsigned_abs}
use Rattle.std.proofs.lemmas.Bool.{cases_lt}
use Rattle.std.proofs.lemmas.Bool.Decides.{nat_tests}
use Rattle.std.proofs.lemmas.Int.{ints}
use Rattle.ts_chunk_packed.specs.Packed.{zigzag, unzigzag}

-- a number from 0 on, and one below 0
pub zigzag_up : (z : ℤ) → pos 0 ≤ℤ z → zigzag z ≡ 2 * unsigned_abs z
unfolding zigzag
zigzag_up (pos n) from = refl
zigzag_up (negsuc n) from = absurd (omega (arith, ints))

pub zigzag_down : (z : ℤ) → z <ℤ pos 0 → zigzag z ≡ 2 * unsigned_abs z - 1
unfolding zigzag
zigzag_down (pos n) below = absurd (omega (arith, ints))
zigzag_down (negsuc n) below = refl

-- an even number is half of it up, and an odd one is below 0
pub unzigzag_even : (n : ℕ) → n % 2 ≡ 0 → unzigzag n ≡ pos (n / 2)
unfolding unzigzag
unzigzag_even n even = let test : nat_eq (n % 2) 0 ≡ true = grind (arith, nat_tests) in rw test

pub unzigzag_odd : (n : ℕ) → n % 2 ≡ 1 → unzigzag n ≡ negsuc (n / 2)
unfolding unzigzag
unzigzag_odd n odd = let test : nat_eq (n % 2) 0 ≡ false = grind (arith, nat_tests) in rw test

pub zigzag_back : (z : ℤ) → unzigzag (zigzag z) ≡ z
unfolding zigzag
zigzag_back (pos n) = unzigzag_even (2 * n) (omega arith) ∙ ap pos (let half : 2 * n / 2 ≡ n = omega arith in half)
zigzag_back (negsuc n) = unzigzag_odd (2 * suc n - 1) (omega arith) ∙ ap negsuc (let half : (2 * suc n - 1) / 2 ≡ n = omega arith in half)

-- each number is the code of one difference
pub zigzag_forth : (n : ℕ) → zigzag (unzigzag n) ≡ n
unfolding zigzag
zigzag_forth n = elim (cases_lt (n % 2) 1) [
  | inl even ↦ ap zigzag (unzigzag_even n (omega arith)) ∙ (let half : 2 * (n / 2) ≡ n = omega arith in half)
  | inr odd ↦ ap zigzag (unzigzag_odd n (omega arith)) ∙ (let half : 2 * suc (n / 2) - 1 ≡ n = omega arith in half)
]
