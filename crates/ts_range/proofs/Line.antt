-- Consecutive buckets by their numbers.
use Rattle.std.proofs.Common.{◌≡◌, Bool, if◌then◌else◌, ℕ, zero, suc, ◌+◌, ◌-◌, ◌*◌, ◌/◌, ◌≤◌, inl, inr, pos, ◌+ℤ◌, ◌-ℤ◌, [], ◌∷◌, map, ◌∙◌, ap, arith}
use Rattle.std.specs.Prelude.{ℤ, nat_abs}
use Rattle.std.specs.List.{range_with_len}
use Rattle.std.proofs.lemmas.Bool.{cases_lt, le-leb}
use Rattle.std.proofs.lemmas.Int.{ints}
use Rattle.std.proofs.Math.Nat.{mul-div_cancel_left}
use Rattle.ts_spec.specs.Bucket.{Grid, raw, from_zero, starts_from}
use Rattle.ts_spec.specs.Answer.{starts_between}
use Rattle.ts_spec.proofs.Buckets.{start-le}
use Rattle.ts_bucket.proofs.Numbers.{number, numbered, grows, apart}

from_zero-is : (r : ℤ) (k m : ℕ) → r +ℤ pos k ≡ pos m → from_zero r ≡ m - k
from_zero-is r k m is = grind (arith, ints)

-- where the bucket of this number begins
abbrev pub begin : Grid → ℕ → ℕ
begin g k = g.duration * k - (g.align * g.duration - g.align)

module _ (g : Grid) (some : 1 ≤ g.duration) where
  -- the starts from a bucket on, by number
  pub numbered-from : (n : ℕ) (r : ℤ) (m : ℕ) → r +ℤ pos (g.align * g.duration) ≡ pos (g.align + g.duration * m) → starts_from g r n ≡ map (begin g) (range_with_len m (suc n))
  numbered-from zero r m is = ap (λ (b : ℕ). b ∷ []) (from_zero-is r (g.align * g.duration) (g.align + g.duration * m) is ∙ (let e = grows g some in omega arith))
  numbered-from (suc n) r m is =
      let first : from_zero r ≡ begin g m = from_zero-is r (g.align * g.duration) (g.align + g.duration * m) is ∙ (let e = grows g some in omega arith) in
      let next : g.duration * (m + 1) ≡ g.duration * m + g.duration = grind arith in
      let rest : starts_from g (r +ℤ pos g.duration) n ≡ map (begin g) (range_with_len (m + 1) (suc n)) = numbered-from n (r +ℤ pos g.duration) (m + 1) (omega (arith, ints)) in
      (cc)

  -- later times have no lower numbers
  pub number-mono : (t u : ℕ) → t ≤ u → number g t ≤ number g u
  number-mono t u le = elim (cases_lt (number g u) (number g t)) [
    | inl less ↦ (let e = apart g some u t less in let f = start-le g t (omega arith) in absurd (omega arith))
    | inr more ↦ more
  ]

  -- how many buckets after that of one time that of another is
  apart-by : (lo hi : ℕ) → lo ≤ hi → nat_abs (raw g hi -ℤ raw g lo) / g.duration ≡ number g hi - number g lo
  apart-by lo hi le =
      let k = number g hi - number g lo in
      let mono = number-mono lo hi le in
      let sum : g.duration * (number g lo + k) ≡ g.duration * number g lo + g.duration * k = grind arith in
      let whole : g.duration * number g hi ≡ g.duration * (number g lo + k) = ap (λ (n : ℕ). g.duration * n) (omega arith) in
      let low = numbered g lo some in
      let high = numbered g hi some in
      let away : nat_abs (raw g hi -ℤ raw g lo) ≡ g.duration * k = distance (raw g hi) (raw g lo) (g.duration * k) (omega (arith, ints)) in
      ap (λ (n : ℕ). n / g.duration) away ∙ mul-div_cancel_left k (omega arith)
    where
      distance : (y x : ℤ) (n : ℕ) → y ≡ x +ℤ pos n → nat_abs (y -ℤ x) ≡ n
      distance y x n is = let e : y -ℤ x ≡ pos n = omega (arith, ints) in ap nat_abs e

  -- the starts from one time to another, by number
  pub between-is : (lo hi : ℕ) → lo ≤ hi → starts_between g lo hi ≡ map (begin g) (range_with_len (number g lo) (suc (number g hi - number g lo)))
  between-is lo hi le =
      ap (λ (b : Bool). if b then starts_from g (raw g lo) (nat_abs (raw g hi -ℤ raw g lo) / g.duration) else []) (le-leb lo hi le)
      ∙ ap (starts_from g (raw g lo)) (apart-by lo hi le)
      ∙ numbered-from (number g hi - number g lo) (raw g lo) (number g lo) (numbered g lo some)
