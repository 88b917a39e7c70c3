-- Laid samples have the summary of their values, and six numbers are a summary exactly if they pass the test.
use Rattle.std.proofs.Common.{◌≡◌, ℕ, suc, List, [], ◌∷◌, map, fold, refl, sym, ap, ◌∙◌, subst}
use Rattle.std.specs.Prelude.{ℤ}
use Rattle.ts_spec.specs.Aggregate.{Summary, nothing, summary}
use Rattle.ts_restore.specs.Laid.{laid}
use Rattle.ts_restore.specs.Summaries.{IsSummary, IsExact, values_of}
use Rattle.ts_restore.proofs.PushedValues.{push_value, summary-values}
use Rattle.ts_restore.proofs.ValuesOf.{values-summary}
use Rattle.ts_restore.proofs.ExactSummaries.{exact-summary}

values-laid : (from made : ℕ) (vs : List ℤ) → map (λ p. p.value) (laid from made vs) ≡ vs
values-laid from made [] = refl
values-laid from made (v ∷ vs) = ap (λ (ws : List ℤ). v ∷ ws) (values-laid (suc from) made vs)

-- The laid values of six numbers that pass the test have them as their summary.
pub summary-laid : (from made : ℕ) (s : Summary) → IsExact s → summary (laid from made (values_of s)) ≡ s
summary-laid from made s h =
    summary-values (laid from made (values_of s)) ∙ ap (fold push_value nothing) (values-laid from made (values_of s)) ∙ values-summary s h

-- Six numbers that pass the test are a summary.
pub exact-some : (s : Summary) → IsExact s → IsSummary s
exact-some s h = (laid 0 0 (values_of s), summary-laid 0 0 s h)

-- A summary passes the test.
pub some-exact : (s : Summary) → IsSummary s → IsExact s
some-exact s x = subst IsExact (sym (summary-values x.0) ∙ x.1) (exact-summary (map (λ p. p.value) x.0))
