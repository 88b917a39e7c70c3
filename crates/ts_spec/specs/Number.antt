-- Numbers and times as words of a command.
use Rattle.std.specs.Prelude.{ℕ, ◌+◌, ◌*◌, Bool, ◌&&◌, nat_le, if◌then◌else◌, List, length, fold, Option, None, Some}
use Rattle.std.specs.List.{list_all}
use Rattle.ts_spec.specs.Sample.{MAX_TIME}
use Rattle.ts_spec.specs.Wire.{is_digit, digit_of}

-- the number that decimal digits write
abbrev pub digits_number : List ℕ → ℕ
digits_number digits = fold (λ n byte. 10 * n + digit_of byte) 0 digits

-- whether a word is 1 to 19 digits; leading zeros are allowed
abbrev pub is_digits : List ℕ → Bool
is_digits word = nat_le 1 (length word) && nat_le (length word) 19 && list_all is_digit word

-- parses a number of at most MAX_TIME
abbrev pub number : List ℕ → Option ℕ
number word = if is_digits word && nat_le (digits_number word) MAX_TIME then Some (digits_number word) else None
