-- The options of series and of writes, and the specification of a new series.
use Rattle.std.specs.Prelude.{◌≡◌, ℕ, suc, ◌≤◌, ◌%◌, ℤ, pos, int_lt, Bool, ◌&&◌, ◌||◌, ◌==◌, nat_le, if◌then◌else◌, List, [], ◌∷◌, length, codes, Some, is_some, ok_or, unwrap_or, Result, Ok, Err}
use Rattle.ts_spec.specs.declared.series.Policy.{Policy}
use Rattle.ts_spec.specs.declared.series.Policy.TheVariants.{Block}
use Rattle.ts_spec.specs.declared.series.Encoding.{Encoding}
use Rattle.ts_spec.specs.declared.series.Encoding.TheVariants.{Compressed}
use Rattle.ts_spec.specs.Names.{Table, named, policies, encodings}
use Rattle.ts_spec.specs.Number.{number}
use Rattle.ts_spec.specs.State.{Label}
use Rattle.ts_spec.specs.Labels.{with_label}
use Rattle.ts_spec.specs.Command.{Spec, Change}
use Rattle.ts_spec.specs.Refusal.{Fault, BadOption, BadLabels, BadChunkSize, BadPolicy, BadEncoding}
use Rattle.ts_spec.specs.Settings.{Word, and_then, at_word, value_word, Given, Setting, one_word, two_words, has_name}

-- ---- single words

-- parses a retention in milliseconds
unfoldable pub retention_word : Word → Result ℕ Fault
retention_word word = ok_or (number word) BadOption

-- the valid chunk sizes: 48 to 1048576 bytes, a multiple of 8
abbrev pub IsChunkSize : ℕ → Type 0
IsChunkSize n = (48 ≤ n) × (n ≤ 1048576) × (n % 8 ≡ 0)

-- whether a chunk size is valid
abbrev pub is_chunk_size : ℕ → Bool
is_chunk_size n = nat_le 48 n && nat_le n 1048576 && (n % 8 == 0)

-- parses a chunk size in bytes
unfoldable pub chunk_size_word : Word → Result ℕ Fault
chunk_size_word word = and_then (ok_or (number word) BadChunkSize) (λ n. if is_chunk_size n then Ok n else Err BadChunkSize)

-- parses a duplicate policy
unfoldable pub policy_word : Word → Result Policy Fault
policy_word word = ok_or (named policies word) BadPolicy

-- parses an encoding
unfoldable pub encoding_word : Word → Result Encoding Fault
encoding_word word = ok_or (named encodings word) BadEncoding

-- parses the greatest time difference of IGNORE, in milliseconds
unfoldable pub ignore_time_word : Word → Result ℕ Fault
ignore_time_word word = ok_or (number word) BadOption

-- a value that must not be negative
abbrev pub from_zero : ℤ → Result ℤ Fault
from_zero v = if int_lt v (pos 0) then Err BadOption else Ok v

-- parses the greatest value difference of IGNORE
unfoldable pub ignore_value_word : Word → Result ℤ Fault
ignore_value_word word = and_then (value_word word) from_zero

-- ---- options

-- RETENTION: how long samples are kept, in milliseconds
abbrev pub retention : Setting
retention = one_word (λ given. is_some given.retention) (λ word given. and_then (retention_word word) (λ n. Ok (record given { retention = Some n })))

-- ENCODING: the encoding of the chunks
abbrev pub encoding : Setting
encoding = one_word (λ given. is_some given.encoding) (λ word given. and_then (encoding_word word) (λ e. Ok (record given { encoding = Some e })))

-- CHUNK_SIZE: the size of a chunk in bytes
abbrev pub chunk_size : Setting
chunk_size = one_word (λ given. is_some given.chunk_size) (λ word given. and_then (chunk_size_word word) (λ n. Ok (record given { chunk_size = Some n })))

-- DUPLICATE_POLICY: what a write does if its time already has a sample
abbrev pub duplicate_policy : Setting
duplicate_policy = one_word (λ given. is_some given.policy) (λ word given. and_then (policy_word word) (λ p. Ok (record given { policy = Some p })))

-- IGNORE: how close to the last sample a write is ignored, in time and value
abbrev pub ignore : Setting
ignore = two_words (λ given. is_some given.ignore) (λ time amount given.
    and_then (ignore_time_word time) (λ t. and_then (ignore_value_word amount) (λ v. Ok (record given { ignore = Some (record { time = t; value = v }) }))))

-- ON_DUPLICATE: the policy of this write alone
abbrev pub on_duplicate : Setting
on_duplicate = one_word (λ given. is_some given.on) (λ word given. and_then (policy_word word) (λ p. Ok (record given { on = Some p })))

-- TIMESTAMP: the time of an increment
abbrev pub timestamp : Setting
timestamp = one_word (λ given. is_some given.at) (λ word given. and_then (at_word word) (λ at. Ok (record given { at = Some at })))

-- whether a word is empty
abbrev pub is_empty : Word → Bool
is_empty word = length word == 0

-- the labels so far, then those of the words, in pairs of name and value
abbrev pub labels_after : List Label → List Word → Result (List Label) Fault
labels_after labels [] = Ok labels
labels_after labels (name ∷ []) = Err BadLabels
labels_after labels (name ∷ value ∷ words) =
    if is_empty name || is_empty value then Err BadLabels else labels_after (with_label (record { name = name; value = value }) labels) words

-- how many words belong to LABELS: pairs up to the next option name in the position of a label
abbrev pub count_pairs : (is_option : Word → Bool) → List Word → ℕ
count_pairs is_option [] = 0
count_pairs is_option (name ∷ []) = if is_option name then 0 else 1
count_pairs is_option (name ∷ value ∷ words) = if is_option name then 0 else suc (suc (count_pairs is_option words))

-- LABELS: labels with their values, possibly none
abbrev pub labels : Setting
labels = record {
  stood = λ given. is_some given.labels;
  size = count_pairs;
  says = λ words given. and_then (labels_after [] words) (λ ls. Ok (record given { labels = Some ls }));
}

-- the options of a new series
unfoldable pub series_options : Table Setting
series_options =
    (codes "RETENTION", retention)
    ∷ (codes "ENCODING", encoding)
    ∷ (codes "CHUNK_SIZE", chunk_size)
    ∷ (codes "DUPLICATE_POLICY", duplicate_policy)
    ∷ (codes "IGNORE", ignore)
    ∷ (codes "LABELS", labels)
    ∷ []

-- the options of TS.ALTER, which cannot change the encoding
unfoldable pub alter_options : Table Setting
alter_options =
    (codes "RETENTION", retention)
    ∷ (codes "CHUNK_SIZE", chunk_size)
    ∷ (codes "DUPLICATE_POLICY", duplicate_policy)
    ∷ (codes "IGNORE", ignore)
    ∷ (codes "LABELS", labels)
    ∷ []

-- the options of TS.ADD: those of a new series, and ON_DUPLICATE
unfoldable pub add_options : Table Setting
add_options = (codes "ON_DUPLICATE", on_duplicate) ∷ series_options

-- the options of TS.INCRBY and TS.DECRBY: those of a new series, and TIMESTAMP
unfoldable pub incr_options : Table Setting
incr_options = (codes "TIMESTAMP", timestamp) ∷ series_options

-- whether LABELS is among the words
abbrev pub has_labels : List Word → Bool
has_labels = has_name (codes "LABELS")

-- The specification of a new series. By default it keeps samples forever, in compressed chunks of 4096 bytes, blocks
-- duplicates, and ignores at most an equal sample.
abbrev pub spec : Given → Spec
spec given =
    record {
      options = record {
        retention = unwrap_or given.retention 0;
        encoding = unwrap_or given.encoding Compressed;
        chunk_size = unwrap_or given.chunk_size 4096;
        policy = unwrap_or given.policy Block;
        ignore = unwrap_or given.ignore (record { time = 0; value = pos 0 });
      };
      labels = unwrap_or given.labels [];
    }

-- the change that TS.ALTER makes
abbrev pub change : Given → Change
change given = record {
  retention = given.retention;
  chunk_size = given.chunk_size;
  policy = given.policy;
  ignore = given.ignore;
  labels = given.labels;
}
