-- The command line, and the mode that it selects.
use Rattle.std.specs.Prelude.{ℕ, ◌+◌, ◌-◌, ◌*◌, ◌^◌, ◌≤◌, Bool, false, not, ◌&&◌, ◌==◌, nat_le, nat_eq, if◌then◌else◌, List, [], ◌∷◌, length, fold, codes, Option, None, Some}
use Rattle.std.specs.Option.{option_map}
use Rattle.std.specs.Cmp.Lexicographic.{pointwise}
use Rattle.std.specs.List.{list_all}
use Rattle.ts_words.specs.declared.mode.Mode.{Mode}
use Rattle.ts_words.specs.declared.mode.Mode.TheVariants.{Pipe, Serve, Gen, Keep, Host, Fold, Mux}
use Rattle.ts_words.specs.declared.mode.Storage.TheVariants.{Memory, Journal, SyncedJournal}

-- whether two words have the same bytes
abbrev pub same : List ℕ → List ℕ → Bool
same word name = pointwise nat_eq word name

-- whether a byte is a decimal digit
abbrev pub is_digit : ℕ → Bool
is_digit byte = nat_le 48 byte && nat_le byte 57

-- the number that decimal digits write
abbrev pub digits_number : List ℕ → ℕ
digits_number digits = fold (λ n byte. 10 * n + (byte - 48)) 0 digits

-- a number is 1 to 20 digits; leading zeros are allowed
abbrev pub is_digits : List ℕ → Bool
is_digits word = nat_le 1 (length word) && nat_le (length word) 20 && list_all is_digit word

-- the number that a word writes, if it is from `least` to `most`
abbrev pub number : (least most : ℕ) → List ℕ → Option ℕ
number least most word =
    if is_digits word && nat_le least (digits_number word) && nat_le (digits_number word) most then Some (digits_number word) else None

-- an address or a file name is not empty, and does not begin with `-`
abbrev pub is_operand : List ℕ → Bool
is_operand [] = false
is_operand (first ∷ rest) = not (first == 45)

-- the arguments of `serve`: an address and the number of connections
abbrev pub serve_of : (address connections : List ℕ) → Option Mode
serve_of address connections = if is_operand address then option_map Serve (number 1 (2 ^ 32 - 1) connections) else None

-- the number of sample requests, if there is a seed
abbrev pub gen_with : Option ℕ → Option ℕ → Option Mode
gen_with None n = None
gen_with (Some seed) n = option_map (Gen seed) n

-- the arguments of `gen`: a seed and the number of sample requests
abbrev pub gen_of : (seed n : List ℕ) → Option Mode
gen_of seed n = gen_with (number 0 (2 ^ 64 - 1) seed) (number 0 1000000 n)

-- one argument: `pipe` or `mux`
abbrev pub one_word : List ℕ → Option Mode
one_word word = if same word (codes "pipe") then Some Pipe else (if same word (codes "mux") then Some Mux else None)

-- two arguments: `keep` or `fold` and the name of the journal's file, or `host` and an address
abbrev pub two_words : (word name : List ℕ) → Option Mode
two_words word name =
    if same word (codes "keep") && is_operand name then Some Keep
    else (if same word (codes "fold") && is_operand name then Some Fold
    else (if same word (codes "host") && is_operand name then Some (Host Memory) else None))

-- the arguments of `host` with a journal: an address and the name of the journal's file
abbrev pub host_of : (address name : List ℕ) → Option Mode
host_of address name = if is_operand address && is_operand name then Some (Host Journal) else None

-- three arguments: `serve`, `gen` or `host` and its two
abbrev pub three_words : (word first second : List ℕ) → Option Mode
three_words word first second =
    if same word (codes "serve") then serve_of first second
    else (if same word (codes "gen") then gen_of first second else (if same word (codes "host") then host_of first second else None))

-- four arguments: `host`, an address, the name of the journal's file, and `sync`
abbrev pub four_words : (word address name last : List ℕ) → Option Mode
four_words word address name last =
    if same word (codes "host") && is_operand address && is_operand name && same last (codes "sync") then Some (Host SyncedJournal) else None

-- the mode that these arguments select, if any
abbrev pub mode_of : List (List ℕ) → Option Mode
mode_of [] = None
mode_of (word ∷ []) = one_word word
mode_of (word ∷ name ∷ []) = two_words word name
mode_of (word ∷ first ∷ second ∷ []) = three_words word first second
mode_of (word ∷ first ∷ second ∷ third ∷ []) = four_words word first second third
mode_of (word ∷ first ∷ second ∷ third ∷ fourth ∷ words) = None

-- the numbers of a mode are within their bounds
abbrev pub IsWithin : Mode → Type 0
IsWithin Pipe = Unit {0}
IsWithin Keep = Unit {0}
IsWithin Fold = Unit {0}
IsWithin Mux = Unit {0}
IsWithin (Host storage) = Unit {0}
IsWithin (Serve connections) = 1 ≤ connections
IsWithin (Gen seed n) = n ≤ 1000000
