-- Buckets by their index in the grid.
use Rattle.std.proofs.Common.{◌≡◌, ℕ, suc, ◌+◌, ◌-◌, ◌*◌, ◌/◌, ◌%◌, ◌<◌, ◌≤◌, ◌⊎◌, inl, inr, pos, negsuc, ◌+ℤ◌, ◌-ℤ◌, ◌*ℤ◌, refl, sym, ap, ◌∙◌, mul_comm, mul-le-mul_left, mul-suc, arith}
use Rattle.std.specs.Prelude.{ℤ, neg_ℤ}
use Rattle.std.specs.Int.{int_div_euclid}
use Rattle.std.proofs.lemmas.Bool.{cases_lt}
use Rattle.std.proofs.lemmas.Int.{ints}
use Rattle.std.proofs.lemmas.Nat.{div-mul-add, div-add-mod', mod_below, mul-le}
use Rattle.std.proofs.Math.Nat.{div-le_self, mul-div-le, lt-div-mul-add}
use Rattle.ts_spec.specs.Bucket.{Grid, raw, start, from_zero}

-- the index of the bucket of t; the bucket at the alignment has the alignment as its index, so that no index is
-- negative
abbrev pub number_at : (a d t : ℕ) → ℕ
number_at a d t = (t + (a * d - a)) / d

abbrev pub number : Grid → ℕ → ℕ
number g t = number_at g.align g.duration t

-- the start of the bucket of t, by its distance from the alignment in durations
raw_at : (a d t : ℕ) (z q : ℤ) → pos t -ℤ pos a ≡ z → int_div_euclid z (pos d) ≡ q → raw (record { align = a; duration = d }) t ≡ pos a +ℤ (pos d *ℤ q)
raw_at a d t z q away floor = ap (λ x. pos a +ℤ (pos d *ℤ int_div_euclid x (pos d))) away ∙ ap (λ x. pos a +ℤ (pos d *ℤ x)) floor

late_number : (a d t : ℕ) → 1 ≤ d → a ≤ t → number_at a d t ≡ (t - a) / d + a
late_number a d t some reached =
    let q = (t - a) / d in
    let r = (t - a) % d in
    let whole : q * d + r ≡ t - a = div-add-mod' (t - a) d in
    let less : r < d = mod_below (t - a) d (omega arith) in
    let shifted : (q + a) * d ≡ q * d + a * d = grind arith in
    let grows : a * 1 ≤ a * d = mul-le a 1 a d (omega arith) some in
    let there : t + (a * d - a) ≡ (q + a) * d + r = omega arith in
    ap (λ n. n / d) there ∙ div-mul-add (q + a) d r less

early_number : (a d t : ℕ) → 1 ≤ d → t < a → number_at a d t + suc ((a - suc t) / d) ≡ a
early_number a d t some before =
    let q = (a - suc t) / d in
    let r = (a - suc t) % d in
    let k = a - suc q in
    let whole : q * d + r ≡ a - suc t = div-add-mod' (a - suc t) d in
    let less : r < d = mod_below (a - suc t) d (omega arith) in
    let few : q ≤ a - suc t = div-le_self (a - suc t) d in
    let parts : k + suc q ≡ a = omega arith in
    let split : (k + suc q) * d ≡ k * d + q * d + d = grind arith in
    let all : a * d ≡ k * d + q * d + d = ap (λ n. n * d) (sym parts) ∙ split in
    let grows : a * 1 ≤ a * d = mul-le a 1 a d (omega arith) some in
    let there : t + (a * d - a) ≡ k * d + (d - 1 - r) = omega arith in
    let counted : number_at a d t ≡ k = ap (λ n. n / d) there ∙ div-mul-add k d (d - 1 - r) (omega arith) in
    omega arith

late : (a d t : ℕ) → 1 ≤ d → a ≤ t → raw (record { align = a; duration = d }) t +ℤ pos (a * d) ≡ pos (a + d * number_at a d t)
late a d t some reached =
    let q = (t - a) / d in
    let at : raw (record { align = a; duration = d }) t ≡ pos a +ℤ (pos d *ℤ pos q) = raw_at a d t (pos (t - a)) (pos q) (omega (arith, ints)) refl in
    let turned : d * (q + a) ≡ d * q + a * d = grind arith in
    let sum : a + d * q + a * d ≡ a + d * (q + a) = omega arith in
    ap (λ x. x +ℤ pos (a * d)) at ∙ ap pos (sum ∙ ap (λ n. a + d * n) (sym (late_number a d t some reached)))

early : (a d t : ℕ) → 1 ≤ d → t < a → raw (record { align = a; duration = d }) t +ℤ pos (a * d) ≡ pos (a + d * number_at a d t)
early a d t some before =
    let q = (a - suc t) / d in
    let n = number_at a d t in
    let at : raw (record { align = a; duration = d }) t ≡ pos a +ℤ (pos d *ℤ negsuc q) = raw_at a d t (negsuc (a - suc t)) (negsuc q) (omega (arith, ints)) refl in
    let counted : n + suc q ≡ a = early_number a d t some before in
    let parts : (n + suc q) * d ≡ d * n + d * suc q = grind arith in
    let all : a * d ≡ d * n + d * suc q = ap (λ k. k * d) (sym counted) ∙ parts in
    let sum : pos a +ℤ neg_ℤ (pos (d * suc q)) +ℤ pos (a * d) ≡ pos (a + d * n) = omega (arith, ints) in
    ap (λ x. x +ℤ pos (a * d)) at ∙ sum

-- the start of a bucket is `index` durations after that of the first one
pub numbered : (g : Grid) (t : ℕ) → 1 ≤ g.duration → raw g t +ℤ pos (g.align * g.duration) ≡ pos (g.align + g.duration * number g t)
numbered g t some = go (cases_lt t g.align)
  where
    go : (t < g.align) ⊎ (g.align ≤ t) → raw g t +ℤ pos (g.align * g.duration) ≡ pos (g.align + g.duration * number g t)
    go (inl before) = early g.align g.duration t some before
    go (inr reached) = late g.align g.duration t some reached

from_zero_is : (r : ℤ) (k m : ℕ) → r +ℤ pos k ≡ pos m → from_zero r ≡ m - k
from_zero_is (pos n) k m is = omega (arith, ints)
from_zero_is (negsuc n) k m is = omega (arith, ints)

module _ (g : Grid) (some : 1 ≤ g.duration) where
  -- the indices begin before every time
  pub grows : g.align ≤ g.align * g.duration
  grows = let e : g.align * 1 ≤ g.align * g.duration = mul-le g.align 1 g.align g.duration (omega arith) some in omega arith

  -- the start of a bucket, by its index
  pub start_number : (t : ℕ) → start g t ≡ g.duration * number g t - (g.align * g.duration - g.align)
  start_number t = from_zero_is (raw g t) (g.align * g.duration) (g.align + g.duration * number g t) (numbered g t some) ∙ (let e = grows in omega arith)

  -- a time is not before its bucket
  pub reached : (t : ℕ) → g.duration * number g t ≤ t + (g.align * g.duration - g.align)
  reached t = mul-div-le (t + (g.align * g.duration - g.align)) g.duration

  -- nor past it
  pub passed : (t : ℕ) → t + (g.align * g.duration - g.align) < g.duration * number g t + g.duration
  passed t = let e = lt-div-mul-add {a = t + (g.align * g.duration - g.align)} {b = g.duration} (omega arith) in let f = mul_comm (number g t) g.duration in omega arith

  -- a later bucket begins past each time of an earlier one
  pub apart : (t u : ℕ) → number g t < number g u → t < start g u
  apart t u less =
      let e = passed t in
      let f : g.duration * suc (number g t) ≤ g.duration * number g u = mul-le-mul_left g.duration less in
      let h : g.duration * suc (number g t) ≡ g.duration * number g t + g.duration = mul-suc g.duration (number g t) in
      let s = start_number u in
      omega arith

  -- starts are in the order of indices
  pub no_later : (t u : ℕ) → number g t ≤ number g u → start g t ≤ start g u
  no_later t u le =
      let f : g.duration * number g t ≤ g.duration * number g u = mul-le-mul_left g.duration le in
      let s = start_number t in
      let r = start_number u in
      omega arith
