-- Appending one sample to a list.
use Rattle.std.proofs.Common.{◌≡◌, ◌≢◌, ℕ, zero, suc, ◌+◌, ◌≤◌, ◌+ℤ◌, refl, sym, ◌∙◌, ap, arith, List, [], ◌∷◌, ◌++◌}
use Rattle.std.specs.Prelude.{ℤ, unsigned_abs, int_lt, if◌then◌else◌}
use Rattle.std.proofs.lemmas.Int.{ints, to_z-of_z, fits_signed_from_abs}
use mir.Syntax.{w128}
use mir.Val.{SFits, to_z, of_z}
use Rattle.ts_spec.specs.Sample.{Point}
use Rattle.ts_spec.specs.Value.{bound}
use Rattle.ts_spec.specs.Aggregate.{Summary, push, old_unless_first}
use Rattle.ts_spec.proofs.Aggregates.{summary-push}
use Rattle.ts_agg.specs.Running.{IsSmall, Summarizes}
use Rattle.ts_agg.proofs.Results.{sum_fits}

-- a summary from its parts
abbrev pub summary_of : (count : ℕ) (sum least greatest first last : ℤ) → Summary
summary_of count sum least greatest first last = record { count = count; sum = sum; least = least; greatest = greatest; first = first; last = last }

-- summaries with equal parts are equal
same_summary : (r s : Summary) → r.count ≡ s.count → r.sum ≡ s.sum → r.least ≡ s.least → r.greatest ≡ s.greatest → r.first ≡ s.first → r.last ≡ s.last → r ≡ s
same_summary r s count sum least greatest first last =
    ap (λ x. summary_of x r.sum r.least r.greatest r.first r.last) count
    ∙ ap (λ x. summary_of s.count x r.least r.greatest r.first r.last) sum
    ∙ ap (λ x. summary_of s.count s.sum x r.greatest r.first r.last) least
    ∙ ap (λ x. summary_of s.count s.sum s.least x r.first r.last) greatest
    ∙ ap (λ x. summary_of s.count s.sum s.least s.greatest x r.last) first
    ∙ ap (λ x. summary_of s.count s.sum s.least s.greatest s.first x) last

kept_first : (n : ℕ) (old new : ℤ) → n ≡ 0 → old_unless_first n old new ≡ new
kept_first n old new none = ap (λ (k : ℕ). old_unless_first k old new) none

kept_later : (n : ℕ) (old new : ℤ) → n ≢ 0 → old_unless_first n old new ≡ old
kept_later zero old new some = absurd (some refl)
kept_later (suc n) old new some = refl

module _ (s : Summary) (p : Point) (sum : ℤ) (total : sum ≡ s.sum +ℤ p.value) where
  -- the first sample
  pub first_pushed : s.count ≡ 0 → summary_of (s.count + 1) sum p.value p.value p.value p.value ≡ push s p
  first_pushed none =
      same_summary (summary_of (s.count + 1) sum p.value p.value p.value p.value) (push s p) refl total (sym (kept_first s.count _ p.value none)) (sym (kept_first s.count _ p.value none)) (sym (kept_first s.count _ p.value none)) refl

  -- a later one
  pub later_pushed : (least greatest : ℤ) → s.count ≢ 0 → least ≡ (if int_lt p.value s.least then p.value else s.least) → greatest ≡ (if int_lt s.greatest p.value then p.value else s.greatest)
      → summary_of (s.count + 1) sum least greatest s.first p.value ≡ push s p
  later_pushed least greatest some lower higher =
      same_summary (summary_of (s.count + 1) sum least greatest s.first p.value) (push s p) refl total (lower ∙ sym (kept_later s.count _ p.value some)) (higher ∙ sym (kept_later s.count _ p.value some)) (sym (kept_later s.count _ p.value some)) refl

-- a summary of a list becomes that of the list with the sample
pub stands_pushed : (s t : Summary) (p : Point) → t ≡ push s p → (ps : List Point) → Summarizes s ps → Summarizes t (ps ++ p ∷ [])
stands_pushed s t p is ps stands = is ∙ ap (λ (r : Summary). push r p) stands ∙ sym (summary-push ps p)

-- the sum that the code computes
pub added : (count : ℕ) (sum v : ℤ) → IsSmall count sum → unsigned_abs v ≤ bound → to_z w128 (of_z w128 (to_z w128 (of_z w128 sum) +ℤ to_z w128 (of_z w128 v))) ≡ sum +ℤ v
added count sum v small bounded =
    let sum_is = to_z-of_z w128 sum (sum_fits count sum small) in
    let v_is = to_z-of_z w128 v (fits_signed_from_abs w128 v (omega arith)) in
    let fits : SFits w128 (sum +ℤ v) = fits_signed_from_abs w128 (sum +ℤ v) (omega (arith, ints)) in
    ap (λ x. to_z w128 (of_z w128 (x +ℤ to_z w128 (of_z w128 v)))) sum_is ∙ ap (λ x. to_z w128 (of_z w128 (sum +ℤ x))) v_is ∙ to_z-of_z w128 (sum +ℤ v) fits
