-- How options are parsed one after another, and the words that several options share.
use Rattle.std.specs.Prelude.{◌≡◌, ◌≤◌, ℕ, zero, suc, Bool, false, ◌||◌, if◌then◌else◌, ℤ, List, [], ◌∷◌, take, codes, Option, None, Some, is_some, ok_or, Result, Ok, Err}
use Rattle.ts_spec.specs.declared.series.Policy.{Policy}
use Rattle.ts_spec.specs.declared.series.Encoding.{Encoding}
use Rattle.ts_spec.specs.declared.series.Ignore.{Ignore}
use Rattle.ts_spec.specs.declared.command.At.{At}
use Rattle.ts_spec.specs.declared.command.At.TheVariants.{Clock, Time}
use Rattle.ts_spec.specs.declared.bucket.Aggregation.{Aggregation}
use Rattle.ts_spec.specs.declared.bucket.Align.{Align}
use Rattle.ts_spec.specs.declared.bucket.Stamp.{Stamp}
use Rattle.ts_spec.specs.declared.units.ValueFault.{ValueFault}
use Rattle.ts_spec.specs.Sample.{MAX_TIME}
use Rattle.ts_spec.specs.Names.{Table, named}
use Rattle.ts_spec.specs.Number.{number}
use Rattle.ts_spec.specs.Value.{value}
use Rattle.std.specs.Str.{bytes_eq, str_eq_ignore_ascii_case}
use Rattle.ts_spec.specs.State.{Label}
use Rattle.ts_spec.specs.Filter.{Filter}
use Rattle.ts_spec.specs.Command.{Span, Show, GroupBy}
use Rattle.ts_spec.specs.Refusal.{Fault, BadTimestamp, BadValue, BadOption, RepeatedOption}

-- a word: a byte string
abbrev pub Word : Type 0
Word = List ℕ

-- continues with the result, or stops at a fault
abbrev pub and_then : {X Y : Type 0} → Result X Fault → (X → Result Y Fault) → Result Y Fault
and_then (Err fault) next = Err fault
and_then (Ok x) next = next x

-- ---- single words

-- a time in a command is at most MAX_TIME
abbrev pub IsTime : At → Type 0
IsTime at = (t : ℕ) → at ≡ Time t → t ≤ MAX_TIME

-- parses a time
unfoldable pub time_word : Word → Result ℕ Fault
time_word word = ok_or (number word) BadTimestamp

-- parses an end of an interval: a time, `-` for 0 or `+` for MAX_TIME
unfoldable pub end_word : Word → Result ℕ Fault
end_word word =
    if bytes_eq word (codes "-") then Ok 0
    else (if bytes_eq word (codes "+") then Ok MAX_TIME else time_word word)

-- parses a time, or `*` for the clock
unfoldable pub at_word : Word → Result At Fault
at_word word = if bytes_eq word (codes "*") then Ok Clock else and_then (time_word word) (λ t. Ok (Time t))

-- the value, or the BadValue fault of the command
abbrev pub value_of : Result ℤ ValueFault → Result ℤ Fault
value_of (Ok v) = Ok v
value_of (Err fault) = Err (BadValue fault)

-- parses a value
unfoldable pub value_word : Word → Result ℤ Fault
value_word word = value_of (value word)

-- ---- options

-- the options parsed so far
pub record Given : Type 0 where
  pub retention : Option ℕ
  pub encoding : Option Encoding
  pub chunk_size : Option ℕ
  pub policy : Option Policy
  pub ignore : Option Ignore
  -- ON_DUPLICATE
  pub on : Option Policy
  pub at : Option At
  pub labels : Option (List Label)
  -- filters by times and values, and the row limit
  pub times : Option (List ℕ)
  pub values : Option Span
  pub count : Option ℕ
  -- buckets: aggregation, alignment, timestamp, and whether empty ones are returned
  pub aggregation : Option Aggregation
  pub align : Option Align
  pub stamp : Option Stamp
  pub empty : Bool
  -- whether open buckets are included (LATEST)
  pub latest : Bool
  -- for queries over many series: the labels to return, the filters, and the grouping
  pub show : Option Show
  pub filters : Option (List Filter)
  pub group : Option GroupBy

-- no options
abbrev pub nothing : Given
nothing = record {
  retention = None;
  encoding = None;
  chunk_size = None;
  policy = None;
  ignore = None;
  on = None;
  at = None;
  labels = None;
  times = None;
  values = None;
  count = None;
  aggregation = None;
  align = None;
  stamp = None;
  empty = false;
  latest = false;
  show = None;
  filters = None;
  group = None;
}

-- An option: whether it was given before, how many of the words after it are its arguments (`is_option` tells which
-- words are option names), and how its arguments parse.
pub record Setting : Type 0 where
  pub stood : Given → Bool
  pub size : (is_option : Word → Bool) → List Word → ℕ
  pub says : List Word → Given → Result Given Fault

-- an option without arguments
abbrev pub no_words : (Given → Bool) → (Given → Given) → Setting
no_words stood tells = record { stood = stood; size = λ is_option words. 0; says = λ words given. Ok (tells given) }

-- parses one argument
abbrev pub says_one : (Word → Given → Result Given Fault) → List Word → Given → Result Given Fault
says_one read [] given = Err BadOption
says_one read (word ∷ words) given = read word given

-- an option with one argument
abbrev pub one_word : (Given → Bool) → (Word → Given → Result Given Fault) → Setting
one_word stood read = record { stood = stood; size = λ is_option words. 1; says = says_one read }

-- parses two arguments
abbrev pub says_two : (Word → Word → Given → Result Given Fault) → List Word → Given → Result Given Fault
says_two read (one ∷ two ∷ words) given = read one two given
says_two read words given = Err BadOption

-- an option with two arguments
abbrev pub two_words : (Given → Bool) → (Word → Word → Given → Result Given Fault) → Setting
two_words stood read = record { stood = stood; size = λ is_option words. 2; says = says_two read }

-- parses three arguments
abbrev pub says_three : (Word → Word → Word → Given → Result Given Fault) → List Word → Given → Result Given Fault
says_three read (one ∷ two ∷ three ∷ words) given = read one two three given
says_three read words given = Err BadOption

-- an option with three arguments
abbrev pub three_words : (Given → Bool) → (Word → Word → Word → Given → Result Given Fault) → Setting
three_words stood read = record { stood = stood; size = λ is_option words. 3; says = says_three read }

-- how many words come before the next option name
abbrev pub count_own : (is_option : Word → Bool) → List Word → ℕ
count_own is_option [] = 0
count_own is_option (word ∷ words) = if is_option word then 0 else suc (count_own is_option words)

-- parses one or more arguments
abbrev pub says_some : (List Word → Given → Result Given Fault) → List Word → Given → Result Given Fault
says_some read [] given = Err BadOption
says_some read (word ∷ words) given = read (word ∷ words) given

-- an option with a list, up to the next option name
abbrev pub some_words : (Given → Bool) → (List Word → Given → Result Given Fault) → Setting
some_words stood read = record { stood = stood; size = count_own; says = says_some read }

-- the option of this name, or the fault if it is unknown or given twice
abbrev pub new_setting : Given → Option Setting → Result Setting Fault
new_setting given None = Err BadOption
new_setting given (Some setting) = if setting.stood given then Err RepeatedOption else Ok setting

-- whether one of the words is this name, in any case
abbrev pub has_name : (name : List ℕ) → List Word → Bool
has_name name [] = false
has_name name (word ∷ words) = str_eq_ignore_ascii_case name word || has_name name words

-- whether a word is the name of a known option
abbrev pub is_known : Table Setting → Word → Bool
is_known known word = is_some (named known word)

-- Parses options. The first `own` words are arguments of the option before them and are skipped.
abbrev pub options : Table Setting → Given → (own : ℕ) → List Word → Result Given Fault
options known given own [] = Ok given
options known given (suc own) (word ∷ words) = options known given own words
options known given zero (word ∷ words) =
    and_then (new_setting given (named known word)) (λ setting.
    and_then (setting.says (take (setting.size (is_known known) words) words) given) (λ more.
    options known more (setting.size (is_known known) words) words))
