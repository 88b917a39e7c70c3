use Rattle.std.proofs.Common.{◌≡◌, ◌+◌, ◌*◌, ◌^◌, ◌≤◌, length}
use Rattle.ts_spec.specs.Value.{digits, after_digits, number_after}
use Rattle.ts_decimal.proofs.short.accumulate_digits.Given as goal

abbrev pub invariant-loop-digit : goal.invariant-loop-digit
invariant-loop-digit l = record {
  value : number_after l.number (digits l.rest) ≡ number_after l.fn.number (digits l.text);
  rest : after_digits l.rest ≡ after_digits l.text;
  count : length l.rest + length (digits l.text) ≡ length l.text + length (digits l.rest);
  room : (l.number + 1) * 10 ^ length l.rest ≤ 10 ^ 12;
}

abbrev pub decreases-loop-digit : goal.decreases-loop-digit
decreases-loop-digit l = length l.rest
