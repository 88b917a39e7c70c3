use Rattle.std.proofs.Common.{◌≡◌, ◌+◌, ◌*◌, ◌^◌, ◌≤◌, length}
use Rattle.std.specs.List.{list_all}
use Rattle.ts_spec.specs.Wire.{is_digit}
use Rattle.ts_spec.specs.Value.{number_after}
use Rattle.ts_decimal.proofs.lexer.short_number.Given as goal

abbrev pub invariant-loop-digit : goal.invariant-loop-digit
invariant-loop-digit l = record {
  value : number_after l.number l.rest ≡ number_after 0 l.text;
  tested : list_all is_digit l.rest ≡ list_all is_digit l.text;
  size : length l.rest ≤ 3;
  small : (l.number + 1) * 10 ^ length l.rest ≤ 1000;
}

abbrev pub decreases-loop-digit : goal.decreases-loop-digit
decreases-loop-digit l = length l.rest
