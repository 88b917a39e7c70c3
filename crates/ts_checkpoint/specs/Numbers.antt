-- Numbers as words of a record.
use Rattle.std.specs.Prelude.{ℕ, ℤ, pos, neg_ℤ, Bool, ◌&&◌, ◌==◌, nat_le, if◌then◌else◌, List, [], ◌∷◌, length, codes, Option, None, Some, option_map, Result, Ok, Err}
use Rattle.std.specs.Fmt.{decimal}
use Rattle.std.specs.List.{list_all}
use Rattle.std.specs.Str.{bytes_eq}
use Rattle.ts_spec.specs.declared.units.ValueFault.{ValueFault}
use Rattle.ts_spec.specs.Number.{digits_number}
use Rattle.ts_spec.specs.Sample.{MAX_TIME}
use Rattle.ts_spec.specs.Value.{value}
use Rattle.ts_spec.specs.Wire.{MINUS, is_digit}

-- continues with what was read, if anything was
abbrev pub if_read : {X Y : Type 0} → Option X → (X → Option Y) → Option Y
if_read None next = None
if_read (Some x) next = next x

-- whether a word is 1 to 38 digits
abbrev pub is_whole : List ℕ → Bool
is_whole word = nat_le 1 (length word) && nat_le (length word) 38 && list_all is_digit word

-- parses 1 to 38 digits
unfoldable pub whole : List ℕ → Option ℕ
whole word = if is_whole word then Some (digits_number word) else None

-- a number between two others, both included
abbrev pub between : (least most : ℕ) → ℕ → Option ℕ
between least most n = if nat_le least n && nat_le n most then Some n else None

-- parses such a number
unfoldable pub number_in : (least most : ℕ) → List ℕ → Option ℕ
number_in least most word = if_read (whole word) (between least most)

-- parses a time of at most MAX_TIME
abbrev pub time_in : List ℕ → Option ℕ
time_in word = number_in 0 MAX_TIME word

-- parses a time, or `-` for none
unfoldable pub time_or_none : List ℕ → Option (Option ℕ)
time_or_none word = if bytes_eq word (codes "-") then Some None else option_map Some (time_in word)

-- a time, or `-` for none
abbrev pub time_word : Option ℕ → List ℕ
time_word None = codes "-"
time_word (Some t) = decimal t

-- parses an integer: `-` if it is negative, and 1 to 38 digits
unfoldable pub integer : List ℕ → Option ℤ
integer [] = None
integer (byte ∷ bytes) =
    if byte == MINUS then option_map (λ n. neg_ℤ (pos n)) (whole bytes) else option_map pos (whole (byte ∷ bytes))

-- a value, if it is valid
abbrev pub valid_value : Result ℤ ValueFault → Option ℤ
valid_value (Ok v) = Some v
valid_value (Err fault) = None

-- parses a value
unfoldable pub value_in : List ℕ → Option ℤ
value_in word = valid_value (value word)
