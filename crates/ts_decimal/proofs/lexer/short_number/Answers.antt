use Rattle.std.proofs.Common.{◌≡◌, ◌+◌, ◌*◌, ◌^◌, ◌≤◌, length, sym, ◌∙◌, arith, rules}
use Rattle.ts_decimal.specs.Digits.{BeginsWith}
use Rattle.ts_decimal.proofs.Scanning.{number_after-step, all_digits-step, length-step, room-step, small-number, not_short}
use Rattle.ts_decimal.proofs.lexer.short_number.Goals as goal

pub overflow_mul-number : goal.overflow_mul-number
overflow_mul-number c = search (arith, small-number _ _ c.loop-digit.invariant.small)

pub overflow_add-number : goal.overflow_add-number
overflow_add-number c = let b : BeginsWith c.loop-digit.rest.now c.in-Some.digit c.in-Some.after.now = c.in-Some.ensures in search (arith, small-number _ _ c.loop-digit.invariant.small, b.small)

pub loop-digit-preserved : goal.loop-digit-preserved
loop-digit-preserved c =
    let b : BeginsWith c.loop-digit.rest.now c.in-Some.digit c.in-Some.after.now = c.in-Some.ensures in
    let room : (c.loop-digit.number + 1) * 10 ^ (length c.in-Some.after.now + 1) ≤ 1000 = rw (sym (length-step b)) c.loop-digit.invariant.small in
    let same : 10 * c.loop-digit.number + c.from.result ≡ c.loop-digit.number * 10 + c.in-Some.digit = omega arith in
    record {
      value = rw same (sym (number_after-step b c.loop-digit.number) ∙ c.loop-digit.invariant.value);
      tested = sym (all_digits-step b) ∙ c.loop-digit.invariant.tested;
      size = omega (arith, length-step b);
      small = rw c.from.ensures (room-step c.loop-digit.number c.in-Some.digit (length c.in-Some.after.now) b.small room);
    }

pub returns-else-is_empty-2-clause-value : goal.returns-else-is_empty-2-clause-value
returns-else-is_empty-2-clause-value c = not_short c.args.text.now c.loop-digit.rest.now c.loop-digit.invariant.tested c.in_default.ensures (search (rules, c.is_empty-2.ensures))
