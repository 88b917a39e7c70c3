-- Parsed options are in their ranges.
use Rattle.std.proofs.Common.{◌≡◌, ℕ, zero, suc, ◌≤◌, Bool, true, false, if◌then◌else◌, List, [], ◌∷◌, take, refl, arith}
use Rattle.std.specs.Prelude.{ℤ, pos, int_lt, unsigned_abs, Option, None, Some, ok_or, is_some, IfSome, Result, Ok, Err, IfOk}
use Rattle.std.specs.Str.{str_eq_ignore_ascii_case}
use Rattle.ts_spec.specs.declared.series.Ignore.{Ignore}
use Rattle.ts_spec.specs.Command.{Spec, Change}
use Rattle.ts_spec.specs.Names.{Table, named}
use Rattle.ts_spec.specs.Number.{number}
use Rattle.ts_spec.specs.Refusal.{Fault, BadOption, RepeatedOption, BadChunkSize}
use Rattle.ts_spec.specs.SeriesOptions.{is_chunk_size, chunk_size_word, policy_word, encoding_word, retention_word, ignore_time_word, ignore_value_word, from_zero, labels_after, count_pairs, retention, encoding, chunk_size, duplicate_policy, ignore, on_duplicate, timestamp, labels, series_options, alter_options, add_options, incr_options, spec, change}
use Rattle.ts_spec.specs.Settings.{Word, IsTime, at_word, value_word, Given, nothing, Setting, one_word, two_words, new_setting, is_known, options}
use Rattle.ts_spec.specs.Value.{bound}
use Rattle.ts_journal.proofs.LabelWords.{AreReadable, labels-readable}
use Rattle.ts_journal.proofs.Readable.{then-ok, then-any, either-ok, or-fault, or-usual, IsSmall, number-small, at-small, IsBounded, value-bounded}

-- ---- what options give

abbrev IsChunk : ℕ → Type 0
IsChunk n = is_chunk_size n ≡ true

pub record IsReadableIgnore (i : Ignore) : Type 0 where
  pub time : IsSmall i.time
  pub value : IsBounded i.value
  pub from_zero : int_lt i.value (pos 0) ≡ false

pub record IsReadableGiven (known : Table Setting) (given : Given) : Type 0 where
  pub retention : IfSome given.retention IsSmall
  pub chunk_size : IfSome given.chunk_size (λ n. is_chunk_size n ≡ true)
  pub ignore : IfSome given.ignore IsReadableIgnore
  pub at : IfSome given.at IsTime
  pub labels : IfSome given.labels (AreReadable (is_known known))

-- what an option says is in its range
abbrev pub Keeps : Table Setting → Setting → Type 0
Keeps known setting = (words : List Word) (given : Given) → IsReadableGiven known given
    → IfOk (setting.says (take (setting.size (is_known known) words) words) given) (IsReadableGiven known)

keeps-one : (known : Table Setting) (stood : Given → Bool) (read : Word → Given → Result Given Fault)
    → ((word : Word) (given : Given) → IsReadableGiven known given → IfOk (read word given) (IsReadableGiven known)) → Keeps known (one_word stood read)
keeps-one known stood read h [] given g = tt
keeps-one known stood read h (word ∷ words) given g = h word given g

keeps-two : (known : Table Setting) (stood : Given → Bool) (read : Word → Word → Given → Result Given Fault)
    → ((one two : Word) (given : Given) → IsReadableGiven known given → IfOk (read one two given) (IsReadableGiven known)) → Keeps known (two_words stood read)
keeps-two known stood read h [] given g = tt
keeps-two known stood read h (one ∷ []) given g = tt
keeps-two known stood read h (one ∷ two ∷ words) given g = h one two given g

keeps-retention : (known : Table Setting) → Keeps known retention
unfolding retention_word
keeps-retention known = keeps-one known (λ given. is_some given.retention) _ (λ word given g.
    then-ok IsSmall (IsReadableGiven known) (retention_word word) _ (or-fault IsSmall (number word) BadOption (number-small word))
    (λ n h. record { retention = h; chunk_size = g.chunk_size; ignore = g.ignore; at = g.at; labels = g.labels }))

keeps-encoding : (known : Table Setting) → Keeps known encoding
keeps-encoding known = keeps-one known (λ given. is_some given.encoding) _ (λ word given g.
    then-any (IsReadableGiven known) (encoding_word word) _
    (λ e. record { retention = g.retention; chunk_size = g.chunk_size; ignore = g.ignore; at = g.at; labels = g.labels }))

chunk-read : (word : Word) → IfOk (chunk_size_word word) (λ n. is_chunk_size n ≡ true)
unfolding chunk_size_word
chunk-read word = then-any (λ n. is_chunk_size n ≡ true) (ok_or (number word) BadChunkSize) _ (λ n. go n (is_chunk_size n) refl)
  where
    go : (n : ℕ) (b : Bool) → is_chunk_size n ≡ b → IfOk (if b then Ok n else Err BadChunkSize) (λ n. is_chunk_size n ≡ true)
    go n true e = e
    go n false e = tt

keeps-chunk_size : (known : Table Setting) → Keeps known chunk_size
keeps-chunk_size known = keeps-one known (λ given. is_some given.chunk_size) _ (λ word given g.
    then-ok (λ n. is_chunk_size n ≡ true) (IsReadableGiven known) (chunk_size_word word) _ (chunk-read word)
    (λ n h. record { retention = g.retention; chunk_size = h; ignore = g.ignore; at = g.at; labels = g.labels }))

keeps-policy : (known : Table Setting) → Keeps known duplicate_policy
keeps-policy known = keeps-one known (λ given. is_some given.policy) _ (λ word given g.
    then-any (IsReadableGiven known) (policy_word word) _
    (λ p. record { retention = g.retention; chunk_size = g.chunk_size; ignore = g.ignore; at = g.at; labels = g.labels }))

keeps-on : (known : Table Setting) → Keeps known on_duplicate
keeps-on known = keeps-one known (λ given. is_some given.on) _ (λ word given g.
    then-any (IsReadableGiven known) (policy_word word) _
    (λ p. record { retention = g.retention; chunk_size = g.chunk_size; ignore = g.ignore; at = g.at; labels = g.labels }))

keeps-timestamp : (known : Table Setting) → Keeps known timestamp
keeps-timestamp known = keeps-one known (λ given. is_some given.at) _ (λ word given g.
    then-ok IsTime (IsReadableGiven known) (at_word word) _ (at-small word)
    (λ at h. record { retention = g.retention; chunk_size = g.chunk_size; ignore = g.ignore; at = h; labels = g.labels }))

-- a value that is not below 0
abbrev IsFromZero : ℤ → Type 0
IsFromZero v = (unsigned_abs v ≤ bound) × (int_lt v (pos 0) ≡ false)

ignore-value-read : (word : Word) → IfOk (ignore_value_word word) IsFromZero
unfolding ignore_value_word
ignore-value-read word = then-ok IsBounded IsFromZero (value_word word) from_zero (value-bounded word) (λ v h. go v h (int_lt v (pos 0)) refl)
  where
    go : (v : ℤ) → IsBounded v → (b : Bool) → int_lt v (pos 0) ≡ b → IfOk (if b then Err BadOption else Ok v) IsFromZero
    go v h true e = tt
    go v h false e = (h, e)

ignore-time-read : (word : Word) → IfOk (ignore_time_word word) IsSmall
unfolding ignore_time_word
ignore-time-read word = or-fault IsSmall (number word) BadOption (number-small word)

keeps-ignore : (known : Table Setting) → Keeps known ignore
keeps-ignore known = keeps-two known (λ given. is_some given.ignore) _ (λ one two given g.
    then-ok IsSmall (IsReadableGiven known) (ignore_time_word one) _ (ignore-time-read one)
    (λ t early. then-ok IsFromZero (IsReadableGiven known) (ignore_value_word two) _ (ignore-value-read two)
    (λ v h. record {
      retention = g.retention;
      chunk_size = g.chunk_size;
      ignore = record { time = early; value = h.0; from_zero = h.1 };
      at = g.at;
      labels = g.labels;
    })))

keeps-labels : (known : Table Setting) → Keeps known labels
keeps-labels known words given g =
    then-ok (AreReadable (is_known known)) (IsReadableGiven known) (labels_after [] (take (count_pairs (is_known known) words) words)) _
    (labels-readable (is_known known) [] words (record { each = tt; once = tt }))
    (λ ls h. record { retention = g.retention; chunk_size = g.chunk_size; ignore = g.ignore; at = g.at; labels = h })

-- ---- options one after another

-- this holds of each row
abbrev pub EachRow : {X : Type 0} → (X → Type 0) → Table X → Type 0
EachRow holds [] = Unit {0}
EachRow holds (row ∷ rows) = holds row.1 × EachRow holds rows

pub named-holds : {X : Type 0} (holds : X → Type 0) (rows : Table X) (word : List ℕ) → EachRow holds rows → IfSome (named rows word) holds
named-holds holds [] word each = tt
named-holds holds (row ∷ rows) word each = go (str_eq_ignore_ascii_case row.0 word) (named-holds holds rows word each.1)
  where
    go : (b : Bool) → IfSome (named rows word) holds → IfSome (if b then Some row.1 else named rows word) holds
    go true rest = each.0
    go false rest = rest

pub chosen : (P : Setting → Type 0) (given : Given) (o : Option Setting) → IfSome o P → IfOk (new_setting given o) P
chosen P given None h = tt
chosen P given (Some setting) h = either-ok P (setting.stood given) (Err RepeatedOption) (Ok setting) tt h

pub options-readable : (known : Table Setting) → EachRow (Keeps known) known → (own : ℕ) (words : List Word) (given : Given) → IsReadableGiven known given
    → IfOk (options known given own words) (IsReadableGiven known)
options-readable known each own [] given g = g
options-readable known each (suc own) (word ∷ words) given g = options-readable known each own words given g
options-readable known each zero (word ∷ words) given g =
    then-ok (Keeps known) (IsReadableGiven known) (new_setting given (named known word)) _ (chosen (Keeps known) given (named known word) (named-holds (Keeps known) known word each))
    (λ setting keeps. then-ok (IsReadableGiven known) (IsReadableGiven known) (setting.says (take (setting.size (is_known known) words) words) given) _ (keeps words given g)
    (λ more h. options-readable known each (setting.size (is_known known) words) words more h))

series-keeps : (known : Table Setting) → EachRow (Keeps known) series_options
unfolding series_options
series-keeps known = (keeps-retention known, (keeps-encoding known, (keeps-chunk_size known, (keeps-policy known, (keeps-ignore known, (keeps-labels known, tt))))))

alter-keeps : (known : Table Setting) → EachRow (Keeps known) alter_options
unfolding alter_options
alter-keeps known = (keeps-retention known, (keeps-chunk_size known, (keeps-policy known, (keeps-ignore known, (keeps-labels known, tt)))))

add-keeps : (known : Table Setting) → EachRow (Keeps known) add_options
unfolding add_options
add-keeps known = (keeps-on known, series-keeps known)

incr-keeps : (known : Table Setting) → EachRow (Keeps known) incr_options
unfolding incr_options
incr-keeps known = (keeps-timestamp known, series-keeps known)

nothing-readable : (known : Table Setting) → IsReadableGiven known nothing
nothing-readable known = record { retention = tt; chunk_size = tt; ignore = tt; at = tt; labels = tt }

-- what the options of a command give
abbrev ReadsOnly : Table Setting → Type 0
ReadsOnly known = (words : List Word) → IfOk (options known nothing 0 words) (IsReadableGiven known)

pub series-readable : ReadsOnly series_options
series-readable words = options-readable series_options (series-keeps series_options) 0 words nothing (nothing-readable series_options)

pub alter-readable : ReadsOnly alter_options
alter-readable words = options-readable alter_options (alter-keeps alter_options) 0 words nothing (nothing-readable alter_options)

pub add-readable : ReadsOnly add_options
add-readable words = options-readable add_options (add-keeps add_options) 0 words nothing (nothing-readable add_options)

pub incr-readable : ReadsOnly incr_options
incr-readable words = options-readable incr_options (incr-keeps incr_options) 0 words nothing (nothing-readable incr_options)

-- ---- what a series is made with, and what it gets anew

pub record IsReadableSpec (known : Table Setting) (s : Spec) : Type 0 where
  pub retention : IsSmall s.options.retention
  pub chunk_size : is_chunk_size s.options.chunk_size ≡ true
  pub ignore : IsReadableIgnore s.options.ignore
  pub labels : AreReadable (is_known known) s.labels

pub spec-readable : (known : Table Setting) (given : Given) → IsReadableGiven known given → IsReadableSpec known (spec given)
spec-readable known given g = record {
  retention = or-usual IsSmall given.retention 0 g.retention (omega arith);
  chunk_size = or-usual (λ n. is_chunk_size n ≡ true) given.chunk_size 4096 g.chunk_size refl;
  ignore = or-usual IsReadableIgnore given.ignore (record { time = 0; value = pos 0 }) g.ignore (record { time = omega arith; value = omega arith; from_zero = refl });
  labels = or-usual (AreReadable (is_known known)) given.labels [] g.labels (record { each = tt; once = tt });
}

pub record IsReadableChange (known : Table Setting) (c : Change) : Type 0 where
  pub retention : IfSome c.retention IsSmall
  pub chunk_size : IfSome c.chunk_size (λ n. is_chunk_size n ≡ true)
  pub ignore : IfSome c.ignore IsReadableIgnore
  pub labels : IfSome c.labels (AreReadable (is_known known))

pub change-readable : (known : Table Setting) (given : Given) → IsReadableGiven known given → IsReadableChange known (change given)
change-readable known given g = record { retention = g.retention; chunk_size = g.chunk_size; ignore = g.ignore; labels = g.labels }
