-- The arguments of one option parse as that option.
use Rattle.std.proofs.Common.{◌≡◌, ℕ, ◌≤◌, ◌%◌, ◌==◌, ◌&&◌, nat_le, Bool, true, false, if◌then◌else◌, List, [], ◌∷◌, ◌++◌, length, take, codes, refl, ◌∙◌, ap, arith}
use Rattle.std.proofs.lemmas.Bool.{leb-true, and_parts}
use Rattle.std.specs.Prelude.{ℤ, pos, int_lt, None, Some, ok_or, Result, Ok, Err}
use Rattle.std.specs.Fmt.{decimal}
use Rattle.ts_spec.specs.declared.series.Encoding.{Encoding}
use Rattle.ts_spec.specs.declared.series.Encoding.TheVariants.{Compressed, Uncompressed}
use Rattle.ts_spec.specs.declared.series.Ignore.{Ignore}
use Rattle.ts_spec.specs.declared.series.Policy.{Policy}
use Rattle.ts_spec.specs.declared.series.Policy.TheVariants as policy
use Rattle.ts_spec.specs.Names.{Table, named, policies, encodings}
use Rattle.ts_spec.specs.Refusal.{Fault, BadOption, BadChunkSize}
use Rattle.ts_spec.specs.Sample.{MAX_TIME}
use Rattle.ts_spec.specs.SeriesOptions.{is_chunk_size, chunk_size_word, policy_word, encoding_word, retention_word, ignore_time_word, ignore_value_word, from_zero, count_pairs, retention, encoding, chunk_size, duplicate_policy, ignore, labels, series_options, alter_options, add_options, incr_options}
use Rattle.ts_spec.specs.Settings.{Word, and_then, value_of, value_word, Given, Setting, one_word, two_words, is_known, options}
use Rattle.ts_spec.specs.State.{Label}
use Rattle.ts_spec.specs.Value.{shown_value}
use Rattle.ts_decimal.proofs.ReadBack.{value_of_shown}
use Rattle.ts_journal.specs.Record.{encoding_name, policy_name, retention_words, encoding_words, chunk_size_words, policy_words, ignore_words, label_pairs, labels_words}
use Rattle.ts_journal.proofs.LabelWords.{AreReadable, pairs-counted, pairs-read}
use Rattle.ts_journal.proofs.Numbers.{number-decimal}
use Rattle.ts_journal.proofs.Readable.{IsBounded}
use Rattle.ts_journal.proofs.ReadableOptions.{IsReadableIgnore}

-- ---- single words

retention-decimal : (n : ℕ) → n ≤ MAX_TIME → retention_word (decimal n) ≡ Ok n
unfolding retention_word
retention-decimal n h = ap (λ o. ok_or o BadOption) (number-decimal n h)

chunk-decimal : (n : ℕ) → is_chunk_size n ≡ true → chunk_size_word (decimal n) ≡ Ok n
unfolding chunk_size_word
chunk-decimal n h =
    let most : n ≤ 1048576 = leb-true n 1048576 (and_parts (nat_le 48 n) (nat_le n 1048576) (and_parts (nat_le 48 n && nat_le n 1048576) (n % 8 == 0) h).0).1 in
    ap (λ o. and_then (ok_or o BadChunkSize) (λ m. if is_chunk_size m then Ok m else Err BadChunkSize)) (number-decimal n (omega (arith, most)))
    ∙ ap (λ b. if b then Ok n else Err BadChunkSize) h

pub policy-named : (p : Policy) → policy_word (policy_name p) ≡ Ok p
unfolding policy_word policies
policy-named policy.Block = refl
policy-named policy.First = refl
policy-named policy.Last = refl
policy-named policy.Min = refl
policy-named policy.Max = refl
policy-named policy.Sum = refl

encoding-named : (e : Encoding) → encoding_word (encoding_name e) ≡ Ok e
unfolding encoding_word encodings
encoding-named Compressed = refl
encoding-named Uncompressed = refl

ignore-time-decimal : (n : ℕ) → n ≤ MAX_TIME → ignore_time_word (decimal n) ≡ Ok n
unfolding ignore_time_word
ignore-time-decimal n h = ap (λ o. ok_or o BadOption) (number-decimal n h)

pub value-shown : (v : ℤ) → IsBounded v → value_word (shown_value v) ≡ Ok v
unfolding value_word
value-shown v h = ap value_of (value_of_shown v h)

ignore-value-shown : (v : ℤ) → IsBounded v → int_lt v (pos 0) ≡ false → ignore_value_word (shown_value v) ≡ Ok v
unfolding ignore_value_word
ignore-value-shown v h k = ap (λ r. and_then r from_zero) (value-shown v h) ∙ ap (λ b. if b then Err BadOption else Ok v) k

-- ---- one option, and what follows it

pub one-read : (known : Table Setting) (given more : Given) (name word : Word) (rest : List Word) (stood : Given → Bool) (read : Word → Given → Result Given Fault)
    → named known name ≡ Some (one_word stood read) → stood given ≡ false → read word given ≡ Ok more
    → options known given 0 (name ∷ word ∷ rest) ≡ options known more 0 rest
one-read known given more name word rest stood read its new says = rw (its, new, says) refl

two-read : (known : Table Setting) (given more : Given) (name one two : Word) (rest : List Word) (stood : Given → Bool) (read : Word → Word → Given → Result Given Fault)
    → named known name ≡ Some (two_words stood read) → stood given ≡ false → read one two given ≡ Ok more
    → options known given 0 (name ∷ one ∷ two ∷ rest) ≡ options known more 0 rest
two-read known given more name one two rest stood read its new says = rw (its, new, says) refl

passed-over : (known : Table Setting) (given : Given) (words : List Word) → options known given (length words) words ≡ Ok given
passed-over known given [] = refl
passed-over known given (word ∷ words) = passed-over known given words

take-all : (words : List Word) → take (length words) words ≡ words
take-all [] = refl
take-all (word ∷ words) = ap (λ ws. word ∷ ws) (take-all words)

-- the options of the record of a change, among those of a command
pub record Knows (known : Table Setting) : Type 0 where
  pub retention : named known (codes "RETENTION") ≡ Some retention
  pub chunk_size : named known (codes "CHUNK_SIZE") ≡ Some chunk_size
  pub policy : named known (codes "DUPLICATE_POLICY") ≡ Some duplicate_policy
  pub ignore : named known (codes "IGNORE") ≡ Some ignore
  pub labels : named known (codes "LABELS") ≡ Some labels

pub record KnowsAll (known : Table Setting) : Type 0 where
  pub others : Knows known
  pub encoding : named known (codes "ENCODING") ≡ Some encoding

pub series-knows : KnowsAll series_options
unfolding series_options
series-knows = record { others = record { retention = refl; chunk_size = refl; policy = refl; ignore = refl; labels = refl }; encoding = refl }

pub add-knows : KnowsAll add_options
unfolding add_options series_options
add-knows = record { others = record { retention = refl; chunk_size = refl; policy = refl; ignore = refl; labels = refl }; encoding = refl }

pub incr-knows : KnowsAll incr_options
unfolding incr_options series_options
incr-knows = record { others = record { retention = refl; chunk_size = refl; policy = refl; ignore = refl; labels = refl }; encoding = refl }

pub alter-knows : Knows alter_options
unfolding alter_options
alter-knows = record { retention = refl; chunk_size = refl; policy = refl; ignore = refl; labels = refl }

-- ---- the words of each option

pub retention-read : (known : Table Setting) → Knows known → (given : Given) → given.retention ≡ None → (n : ℕ) → n ≤ MAX_TIME → (rest : List Word)
    → options known given 0 (retention_words n ++ rest) ≡ options known (record given { retention = Some n }) 0 rest
retention-read known k given new n h rest =
    one-read known given (record given { retention = Some n }) (codes "RETENTION") (decimal n) rest _ _ k.retention (rw new refl) (rw (retention-decimal n h) refl)

pub encoding-read : (known : Table Setting) → KnowsAll known → (given : Given) → given.encoding ≡ None → (e : Encoding) → (rest : List Word)
    → options known given 0 (encoding_words e ++ rest) ≡ options known (record given { encoding = Some e }) 0 rest
encoding-read known k given new e rest =
    one-read known given (record given { encoding = Some e }) (codes "ENCODING") (encoding_name e) rest _ _ k.encoding (rw new refl) (rw (encoding-named e) refl)

pub chunk_size-read : (known : Table Setting) → Knows known → (given : Given) → given.chunk_size ≡ None → (n : ℕ) → is_chunk_size n ≡ true → (rest : List Word)
    → options known given 0 (chunk_size_words n ++ rest) ≡ options known (record given { chunk_size = Some n }) 0 rest
chunk_size-read known k given new n h rest =
    one-read known given (record given { chunk_size = Some n }) (codes "CHUNK_SIZE") (decimal n) rest _ _ k.chunk_size (rw new refl) (rw (chunk-decimal n h) refl)

pub policy-read : (known : Table Setting) → Knows known → (given : Given) → given.policy ≡ None → (p : Policy) → (rest : List Word)
    → options known given 0 (policy_words p ++ rest) ≡ options known (record given { policy = Some p }) 0 rest
policy-read known k given new p rest =
    one-read known given (record given { policy = Some p }) (codes "DUPLICATE_POLICY") (policy_name p) rest _ _ k.policy (rw new refl) (rw (policy-named p) refl)

pub ignore-read : (known : Table Setting) → Knows known → (given : Given) → given.ignore ≡ None → (i : Ignore) → IsReadableIgnore i → (rest : List Word)
    → options known given 0 (ignore_words i ++ rest) ≡ options known (record given { ignore = Some i }) 0 rest
ignore-read known k given new i h rest =
    two-read known given (record given { ignore = Some i }) (codes "IGNORE") (decimal i.time) (shown_value i.value) rest _ _ k.ignore (rw new refl)
    (rw (ignore-time-decimal i.time h.time, ignore-value-shown i.value h.value h.from_zero) refl)

-- labels come last
pub labels-read : (known : Table Setting) → Knows known → (given : Given) → given.labels ≡ None → (ls : List Label) → AreReadable (is_known known) ls
    → options known given 0 (labels_words ls) ≡ Ok (record given { labels = Some ls })
labels-read known k given new ls h =
    let own : count_pairs (is_known known) (label_pairs ls) ≡ length (label_pairs ls) = pairs-counted (is_known known) ls h.each in
    let accepted_part : take (count_pairs (is_known known) (label_pairs ls)) (label_pairs ls) ≡ label_pairs ls =
    ap (λ n. take n (label_pairs ls)) own ∙ take-all (label_pairs ls) in
    let said : labels.says (take (count_pairs (is_known known) (label_pairs ls)) (label_pairs ls)) given ≡ Ok (record given { labels = Some ls }) =
    ap (λ ws. labels.says ws given) accepted_part ∙ ap (λ r. and_then r (λ ms. Ok (record given { labels = Some ms }))) (pairs-read (is_known known) [] ls h.each h.once) in
    rw (k.labels, new, said, own) (passed-over known (record given { labels = Some ls }) (label_pairs ls))
