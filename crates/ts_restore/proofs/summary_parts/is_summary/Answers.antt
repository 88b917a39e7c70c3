use Rattle.std.proofs.Common.{arith}
use Rattle.ts_restore.specs.Summaries.{summary_of}
use Rattle.ts_restore.proofs.Laid.{exact-some, some-exact}
use Rattle.ts_restore.proofs.summary_parts.is_summary.Goals as goal

pub returns-then-parts-le-MOST : goal.returns-then-parts-le-MOST
returns-then-parts-le-MOST c = (
  λ h. record { few = omega (arith, c.if-parts-le-MOST.true); some = exact-some (summary_of c.args.parts.now) (c.is_exact.ensures.0 h) },
  λ x. c.is_exact.ensures.1 (some-exact (summary_of c.args.parts.now) x.some),
)
