-- Numbers written and read in groups of seven bits.
use Rattle.std.proofs.Common.{◌≡◌, ℕ, zero, suc, ◌+◌, ◌-◌, ◌*◌, ◌/◌, ◌%◌, ◌<◌, ◌≤◌, true, false, nat_lt, List, [], ◌∷◌, ◌++◌, length, sym, ap, ◌∙◌, inl, inr, append_assoc, arith}
use Rattle.std.proofs.lemmas.Bool.{cases_lt}
use Rattle.std.proofs.lemmas.Bool.Decides.{nat_tests}
use Rattle.ts_chunk_packed.specs.Numbers.{number-small, number-large}
use Rattle.ts_chunk_packed.specs.Packed.{number, number_of}

-- ---- writing

-- with one more group written, the rest makes the same bytes
pub group_written : (written : List ℕ) (n : ℕ) → 128 ≤ n → (written ++ (128 + n % 128) ∷ []) ++ number (n / 128) ≡ written ++ number n
group_written written n large =
    append_assoc written ((128 + n % 128) ∷ []) (number (n / 128)) ∙ ap (λ (l : List ℕ). written ++ l) (sym (number-large n large))

pub length_large : (n : ℕ) → 128 ≤ n → length (number n) ≡ suc (length (number (n / 128)))
length_large n large = ap length (number-large n large)

pub length_small : (n : ℕ) → n < 128 → length (number n) ≡ 1
length_small n small = ap length (number-small n small)

-- ---- reading

pub small_first : (n : ℕ) (rest : List ℕ) → n < 128 → number n ++ rest ≡ n ∷ rest
small_first n rest small = ap (λ (l : List ℕ). l ++ rest) (number-small n small)

pub large_first : (n : ℕ) (rest : List ℕ) → 128 ≤ n → number n ++ rest ≡ (128 + n % 128) ∷ (number (n / 128) ++ rest)
large_first n rest large = ap (λ (l : List ℕ). l ++ rest) (number-large n large)

-- the number of a byte below 128, and of one from 128 on
pub last_byte : (b : ℕ) (rest : List ℕ) → b < 128 → number_of (b ∷ rest) ≡ (b, rest)
last_byte b rest small = let test : nat_lt b 128 ≡ true = grind (arith, nat_tests) in rw test

pub byte_more : (b : ℕ) (rest : List ℕ) → 128 ≤ b → number_of (b ∷ rest) ≡ (b - 128 + 128 * (number_of rest).0, (number_of rest).1)
byte_more b rest large = let test : nat_lt b 128 ≡ false = grind (arith, nat_tests) in rw test

back_within : (most n : ℕ) (rest : List ℕ) → n ≤ most → number_of (number n ++ rest) ≡ (n, rest)
back_within zero n rest within = ap number_of (small_first n rest (omega arith)) ∙ last_byte n rest (omega arith)
back_within (suc most) n rest within = elim (cases_lt n 128) [
  | inl small ↦ ap number_of (small_first n rest small) ∙ last_byte n rest small
  | inr large ↦
      let again = back_within most (n / 128) rest (omega arith) in
      let whole : 128 + n % 128 - 128 + 128 * (n / 128) ≡ n = omega arith in
      ap number_of (large_first n rest large) ∙ byte_more (128 + n % 128) (number (n / 128) ++ rest) (omega arith)
      ∙ ap (λ (r : ℕ × List ℕ). (128 + n % 128 - 128 + 128 * r.0, r.1)) again ∙ ap (λ (m : ℕ). (m, rest)) whole
]

-- a number that was written is read back, and what follows it is left
pub number_back : (n : ℕ) (rest : List ℕ) → number_of (number n ++ rest) ≡ (n, rest)
number_back n rest = back_within n n rest (omega arith)
