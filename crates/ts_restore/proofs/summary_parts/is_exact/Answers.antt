use Rattle.std.proofs.Common.{◌≡◌, ℕ, suc, ◌-◌, subst, sym, arith}
use Rattle.ts_restore.specs.Summaries.{IsExactBy, summary_of}
use Rattle.ts_restore.proofs.summary_parts.is_exact.Goals as goal

pub returns-else-parts-eq1 : goal.returns-else-parts-eq1
returns-else-parts-eq1 c =
    let more : c.args.parts.now.count ≡ suc (suc (c.args.parts.now.count - 2)) = omega (arith, c.if-parts-eq0.false, c.if-parts-eq1.false) in (
      λ h. subst (λ (n : ℕ). IsExactBy n (summary_of c.args.parts.now)) (sym more) (c.is_spread.ensures.0 h),
      λ x. c.is_spread.ensures.1 (subst (λ (n : ℕ). IsExactBy n (summary_of c.args.parts.now)) more x),
    )
