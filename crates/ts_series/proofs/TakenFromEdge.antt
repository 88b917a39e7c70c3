-- The samples within retention after samples are deleted from the chunks.
use Rattle.std.proofs.Common.{◌≡◌, ℕ, ◌-◌, ◌<◌, ◌≤◌, not, ◌&&◌, List, sym, ◌∙◌, arith}
use Rattle.std.specs.Prelude.{nat_le, max}
use Rattle.std.proofs.lemmas.Bool.Decides.{nat_tests}
use Rattle.ts_spec.specs.Sample.{Point, at_times, is_within, outside}
use Rattle.ts_sample.proofs.Between.{times-both, times-alike}

cut-test : (from to edge t : ℕ) → (not (is_within (max from edge) to t) && nat_le edge t) ≡ (nat_le edge t && (not (is_within from to t) && nat_le edge t))
cut-test from to edge t = grind (arith, nat_tests)

-- an interval is taken out of what is shown where it is taken out from the edge on
pub cut-shown : (from to edge : ℕ) (ps : List Point) → at_times (nat_le edge) (outside (max from edge) to ps) ≡ at_times (nat_le edge) (outside from to (at_times (nat_le edge) ps))
cut-shown from to edge ps =
    times-both (nat_le edge) (λ t. not (is_within (max from edge) to t)) ps
    ∙ times-alike (λ t. not (is_within (max from edge) to t) && nat_le edge t) (λ t. nat_le edge t && (not (is_within from to t) && nat_le edge t)) ps (cut-test from to edge)
    ∙ sym (times-both (nat_le edge) (λ t. not (is_within from to t)) (at_times (nat_le edge) ps)
    ∙ times-both (λ t. not (is_within from to t) && nat_le edge t) (nat_le edge) ps)

fallen-test : (low edge t : ℕ) → edge < low → (not (is_within 0 (low - 1) t) && nat_le edge t) ≡ (nat_le low t && nat_le edge t)
fallen-test low edge t below = grind (arith, nat_tests, below)

-- where the edge falls, what was before the old one is gone
pub fallen : (low edge : ℕ) (ps : List Point) → edge < low → at_times (nat_le edge) (outside 0 (low - 1) ps) ≡ at_times (nat_le edge) (at_times (nat_le low) ps)
fallen low edge ps below =
    times-both (nat_le edge) (λ t. not (is_within 0 (low - 1) t)) ps
    ∙ times-alike (λ t. not (is_within 0 (low - 1) t) && nat_le edge t) (λ t. nat_le low t && nat_le edge t) ps (λ t. fallen-test low edge t below)
    ∙ sym (times-both (nat_le edge) (nat_le low) ps)

risen-test : (low edge t : ℕ) → low ≤ edge → nat_le edge t ≡ (nat_le low t && nat_le edge t)
risen-test low edge t above = grind (arith, nat_tests, above)

pub risen : (low edge : ℕ) (ps : List Point) → low ≤ edge → at_times (nat_le edge) ps ≡ at_times (nat_le edge) (at_times (nat_le low) ps)
risen low edge ps above =
    times-alike (nat_le edge) (λ t. nat_le low t && nat_le edge t) ps (λ t. risen-test low edge t above) ∙ sym (times-both (nat_le edge) (nat_le low) ps)
