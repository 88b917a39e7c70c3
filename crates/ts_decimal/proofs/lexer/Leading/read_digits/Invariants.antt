use Rattle.std.proofs.Common.{◌≡◌, ℕ, ◌+◌, ◌≤◌, length}
use Rattle.ts_spec.specs.Value.{digits, after_digits, number_after}
use Rattle.ts_decimal.specs.Leading.{Leads}
use Rattle.ts_decimal.proofs.lexer.Leading.read_digits.Given as goal

abbrev pub invariant-loop-digit : goal.invariant-loop-digit
invariant-loop-digit l = record {
  rest : after_digits l.rest ≡ after_digits l.text;
  value : (n : ℕ) → Leads l.fn.self.first l.fn.self.dropped n → (m : ℕ) × (Leads l.number.first l.number.dropped m × (number_after m (digits l.rest) ≡ number_after n (digits l.text)));
  bound : l.number.dropped + length l.rest ≤ l.fn.self.dropped + length l.text;
  count : length l.rest + length (digits l.text) ≡ length l.text + length (digits l.rest);
}

abbrev pub decreases-loop-digit : goal.decreases-loop-digit
decreases-loop-digit l = length l.rest
