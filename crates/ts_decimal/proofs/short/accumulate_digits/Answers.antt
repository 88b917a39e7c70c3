use Rattle.std.proofs.Common.{◌≡◌, ◌+◌, ◌*◌, ◌^◌, ◌≤◌, length, sym, ap, ◌∙◌, add-one, arith}
use Rattle.ts_spec.specs.Value.{digits}
use Rattle.ts_decimal.specs.Digits.{BeginsWith}
use Rattle.ts_decimal.proofs.Scanning.{digits-step, after_digits-step, number_after-digits-step, length-step}
use Rattle.ts_decimal.proofs.FewBytes.{room-step, small-number}
use Rattle.ts_decimal.proofs.short.accumulate_digits.Goals as goal

pub overflow_mul-number : goal.overflow_mul-number
overflow_mul-number c = search (arith, small-number _ _ c.loop-digit.invariant.room)

pub overflow_add-number : goal.overflow_add-number
overflow_add-number c = let b : BeginsWith c.loop-digit.rest.now c.in-Some.digit c.in-Some.after.now = c.in-Some.ensures in search (arith, small-number _ _ c.loop-digit.invariant.room, b.small)

pub loop-digit-preserved : goal.loop-digit-preserved
loop-digit-preserved c =
    let b : BeginsWith c.loop-digit.rest.now c.in-Some.digit c.in-Some.after.now = c.in-Some.ensures in
    let more : length (digits c.loop-digit.rest.now) ≡ length (digits c.in-Some.after.now) + 1 = ap length (digits-step b) ∙ sym (add-one _) in
    let room : (c.loop-digit.number + 1) * 10 ^ (length c.in-Some.after.now + 1) ≤ 10 ^ 12 = rw (sym (length-step b)) c.loop-digit.invariant.room in
    let same : 10 * c.loop-digit.number + c.from.result ≡ c.loop-digit.number * 10 + c.in-Some.digit = omega arith in
    record {
      value = rw same (sym (number_after-digits-step b c.loop-digit.number) ∙ c.loop-digit.invariant.value);
      rest = sym (after_digits-step b) ∙ c.loop-digit.invariant.rest;
      count = omega (arith, length-step b, more);
      room = rw c.from.ensures (room-step c.loop-digit.number c.in-Some.digit (length c.in-Some.after.now) b.small room);
    }
