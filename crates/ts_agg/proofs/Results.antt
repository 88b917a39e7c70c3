-- The results of aggregators fit the 128-bit numbers of the code.
use Rattle.std.proofs.Common.{◌≡◌, ℕ, ◌*◌, ◌^◌, ◌≤◌, pos, sym, ◌∙◌, ap, subst, arith}
use Rattle.std.specs.Prelude.{ℤ, unsigned_abs}
use Rattle.std.proofs.lemmas.Int.{to_z-of_z, fits_signed_from_abs}
use mir.Syntax.{w128}
use mir.Val.{SFits, to_z, of_z}
use Rattle.ts_spec.specs.Value.{bound, clamp, div_round}
use Rattle.ts_decimal.proofs.Quotients.{clamp-within}
use Rattle.ts_agg.specs.Running.{IsSmall}

-- a sum fits into 128 bits
pub sum_fits : (count : ℕ) (sum : ℤ) → IsSmall count sum → SFits w128 sum
sum_fits count sum small = fits_signed_from_abs w128 sum (omega arith)

-- a mean is in the range of values
pub mean : (count : ℕ) (sum m : ℤ) → IsSmall count sum → m ≡ div_round (to_z w128 (of_z w128 sum)) count → ((most : ℕ) → unsigned_abs (to_z w128 (of_z w128 sum)) ≤ most * count → unsigned_abs m ≤ most) → SFits w128 m
    → clamp (to_z w128 (of_z w128 m)) ≡ div_round sum count
mean count sum m small is within fits =
    let read = to_z-of_z w128 sum (sum_fits count sum small) in
    let few : unsigned_abs (to_z w128 (of_z w128 sum)) ≤ bound * count = subst (λ z. unsigned_abs z ≤ bound * count) (sym read) small.within in
    ap clamp (to_z-of_z w128 m fits) ∙ clamp-within m (within bound few) ∙ is ∙ ap (λ z. div_round z count) read

-- and so is a count of samples
pub counted : (count : ℕ) (n : ℤ) → count ≤ 10 ^ 14 → n ≡ pos (count * 1000000) → clamp n ≡ pos (count * 1000000)
counted count n few is = ap clamp is ∙ clamp-within (pos (count * 1000000)) (omega arith)
