use Rattle.std.proofs.Common.{◌≡◌, ◌+ℤ◌, arith}
use Rattle.std.proofs.lemmas.Int.{ints}
use Rattle.ts_restore.specs.Summaries.{times}
use Rattle.ts_restore.proofs.summary_parts.is_reachable.Goals as goal

pub returns-then-lowest-parts-clause-value : goal.returns-then-lowest-parts-clause-value
returns-then-lowest-parts-clause-value c =
    let low : c.with_ends-lowest.result ≡ times c.args.between c.args.parts.now.least +ℤ c.args.parts.now.first +ℤ c.args.parts.now.last =
    omega (arith, ints, c.requires, c.with_ends-lowest.ensures.value, c.times.ensures.value, c.times.ensures.bounded) in
    let high : c.with_ends-highest.result ≡ times c.args.between c.args.parts.now.greatest +ℤ c.args.parts.now.first +ℤ c.args.parts.now.last =
    omega (arith, ints, c.requires, c.with_ends-highest.ensures.value, c.times-2.ensures.value, c.times-2.ensures.bounded) in (
      λ h. record {
        from = grind (arith, ints, low, c.with_ends-lowest.ensures.bounded, c.if-lowest-parts.true);
        to = grind (arith, ints, high, c.with_ends-highest.ensures.bounded, h);
      },
      λ x. grind (arith, ints, high, c.with_ends-highest.ensures.bounded, x.to),
    )
