-- A value n times over, as a product, and its magnitude.
use Rattle.std.proofs.Common.{◌≡◌, ℕ, zero, suc, ◌+◌, ◌*◌, ◌^◌, ◌≤◌, ap, ◌∙◌, sym, arith, suc-mul}
use Rattle.std.specs.Prelude.{ℤ, pos, negsuc, neg_ℤ, ◌*ℤ◌, unsigned_abs}
use mir.Syntax.{w128}
use mir.Val.{to_z, of_z}
use Rattle.std.proofs.lemmas.Int.{ints, unsigned_abs-mul, to_z-of_z, fits_signed_from_abs}
use Rattle.std.proofs.lemmas.Nat.{mul-le}
use Rattle.ts_spec.specs.Value.{bound}
use Rattle.ts_restore.specs.Summaries.{times}

pub times-pos : (n v : ℕ) → times n (pos v) ≡ pos (n * v)
times-pos zero v = let e : 0 ≡ 0 * v = omega arith in ap (λ (x : ℕ). pos x) e
times-pos (suc n) v = let e : suc n * v ≡ n * v + v = suc-mul n v in let ih : times n (pos v) ≡ pos (n * v) = times-pos n v in omega (arith, ints)

times-neg : (n v : ℕ) → times n (negsuc v) ≡ neg_ℤ (pos (n * suc v))
times-neg zero v = let e : 0 ≡ 0 * suc v = omega arith in ap (λ (x : ℕ). neg_ℤ (pos x)) e
times-neg (suc n) v = let e : suc n * suc v ≡ n * suc v + suc v = suc-mul n (suc v) in let ih : times n (negsuc v) ≡ neg_ℤ (pos (n * suc v)) = times-neg n v in omega (arith, ints)

pub times-product : (n : ℕ) (v : ℤ) → times n v ≡ pos n *ℤ v
times-product n (pos v) = times-pos n v
times-product n (negsuc v) = times-neg n v

-- n values within the bound have a sum within n times the bound
pub times-small : (n : ℕ) (v : ℤ) → unsigned_abs v ≤ bound → unsigned_abs (times n v) ≤ bound * n
times-small n v h =
    let a : unsigned_abs (times n v) ≡ n * unsigned_abs v = ap unsigned_abs (times-product n v) ∙ unsigned_abs-mul (pos n) v in
    let b : n * unsigned_abs v ≤ n * bound = mul-le n (unsigned_abs v) n bound (omega arith) h in
    omega arith

-- what the code computes
pub times-code : (n : ℕ) (count value v : ℤ) → count ≡ pos n → value ≡ v → n ≤ 10 ^ 14 → unsigned_abs v ≤ bound →
    to_z w128 (of_z w128 (to_z w128 (of_z w128 count) *ℤ to_z w128 (of_z w128 value))) ≡ times n v
times-code n count value v e f few h =
    let small : unsigned_abs (times n v) ≤ bound * n = times-small n v h in
    let count_is : to_z w128 (of_z w128 count) ≡ pos n = ap (λ (x : ℤ). to_z w128 (of_z w128 x)) e ∙ to_z-of_z w128 (pos n) (fits_signed_from_abs w128 (pos n) (omega arith)) in
    let value_is : to_z w128 (of_z w128 value) ≡ v = ap (λ (x : ℤ). to_z w128 (of_z w128 x)) f ∙ to_z-of_z w128 v (fits_signed_from_abs w128 v (omega arith)) in
    ap (λ (x : ℤ). to_z w128 (of_z w128 (x *ℤ to_z w128 (of_z w128 value)))) count_is
    ∙ ap (λ (x : ℤ). to_z w128 (of_z w128 (pos n *ℤ x))) value_is
    ∙ ap (λ (x : ℤ). to_z w128 (of_z w128 x)) (sym (times-product n v))
    ∙ to_z-of_z w128 (times n v) (fits_signed_from_abs w128 (times n v) (omega (arith, small)))
