use Rattle.std.proofs.Common.{◌*◌, ◌^◌, ◌≤◌, arith}
use Rattle.ts_spec.specs.Value.{bound}
use Rattle.ts_decimal.proofs.Scaling.{too_far, too_large, within_bound}
use Rattle.ts_decimal.proofs.reading.raise.Goals as goal
use Rattle.ts_decimal.proofs.reading.raise.Goals.{then-k-gt-MAX_RAISE-via-then-k-gt-MAX_RAISE, then-k-gt-MAX_RAISE-via-else-k-gt-MAX_RAISE+then-first-power_of_ten}

pub returns-then-k-gt-MAX_RAISE-clause-value : goal.returns-then-k-gt-MAX_RAISE-clause-value
returns-then-k-gt-MAX_RAISE-clause-value c =
    elim c.then-k-gt-MAX_RAISE.branch [
      | then-k-gt-MAX_RAISE-via-then-k-gt-MAX_RAISE w ↦ too_far c.args.first c.args.k c.if-first-eq0.false w.if-k-gt-MAX_RAISE.true
      | then-k-gt-MAX_RAISE-via-else-k-gt-MAX_RAISE+then-first-power_of_ten w ↦
          too_large c.args.first c.args.k w.if-k-gt-MAX_RAISE.false (rw w.power_of_ten.ensures.value at w.if-first-power_of_ten.true)
    ]

pub overflow_mul-result : goal.overflow_mul-result
overflow_mul-result c =
    let within : c.args.first * 10 ^ c.args.k ≤ bound = within_bound c.args.first c.args.k c.if-k-gt-MAX_RAISE.false (rw c.power_of_ten.ensures.value at c.if-first-power_of_ten.false) in
    rw c.power_of_ten-2.ensures.value (search (arith, within))

pub returns-clause-within : goal.returns-clause-within
returns-clause-within c =
    rw c.power_of_ten-2.ensures.value (within_bound c.args.first c.args.k c.if-k-gt-MAX_RAISE.false (rw c.power_of_ten.ensures.value at c.if-first-power_of_ten.false))
