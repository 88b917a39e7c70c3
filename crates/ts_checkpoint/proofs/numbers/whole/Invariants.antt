use Rattle.std.proofs.Common.{◌≡◌, ◌+◌, ◌*◌, ◌<◌, ◌≤◌, ◌^◌, length, drop}
use Rattle.std.specs.List.{list_all}
use Rattle.std.specs.Prelude.{fold}
use Rattle.ts_spec.specs.Wire.{is_digit, digit_of}
use Rattle.ts_spec.specs.Number.{digits_number}
use Rattle.ts_checkpoint.proofs.numbers.whole.Given as goal

-- the number so far goes on to that of the whole word, and every byte so far is a digit
abbrev pub invariant-loop-byte : goal.invariant-loop-byte
invariant-loop-byte l = record {
  value : fold (λ n byte. 10 * n + digit_of byte) l.total (drop l.byte-index l.word) ≡ digits_number l.word;
  digits : list_all is_digit (drop l.byte-index l.word) ≡ list_all is_digit l.word;
  small : l.total < 10 ^ l.byte-index;
  short : length l.word ≤ 38;
  some : 1 ≤ length l.word;
}
