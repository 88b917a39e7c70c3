use Rattle.std.proofs.Common.{◌≡◌, ℕ, ◌+◌, ◌*◌, length, subst, sym, ◌∙◌, ap, add-one, arith}
use Rattle.ts_spec.specs.Value.{digits}
use Rattle.ts_decimal.specs.Digits.{BeginsWith}
use Rattle.ts_decimal.specs.Leading.{Leads}
use Rattle.ts_decimal.proofs.Scanning.{digits-step, after_digits-step, number_after-digits-step, number_after-no_digit, length-step}
use Rattle.ts_decimal.proofs.lexer.Leading.read_digits.Goals as goal

pub loop-digit-preserved : goal.loop-digit-preserved
loop-digit-preserved c =
    let b : BeginsWith c.loop-digit.rest.now c.in-Some.digit c.in-Some.after.now = c.in-Some.ensures in
    let more : length (digits c.loop-digit.rest.now) ≡ length (digits c.in-Some.after.now) + 1 = ap length (digits-step b) ∙ sym (add-one _) in
    record {
      rest = sym (after_digits-step b) ∙ c.loop-digit.invariant.rest;
      value = λ n h.
          let w = c.loop-digit.invariant.value n h in
          (w.0 * 10 + c.in-Some.digit, (c.with-number.ensures.value w.0 w.1.0, sym (number_after-digits-step b w.0) ∙ w.1.1));
      bound = omega (arith, length-step b);
      count = omega (arith, length-step b, more);
    }

pub returns-clause-value : goal.returns-clause-value
returns-clause-value c = λ n h.
    let w = c.loop-digit.invariant.value n h in
    subst (λ (k : ℕ). Leads c.loop-digit.number.first c.loop-digit.number.dropped k) (sym (number_after-no_digit c.in_default.ensures w.0) ∙ w.1.1) w.1.0
