-- Parsed labels are among the arguments.
use Rattle.std.proofs.Common.{◌≡◌, ℕ, zero, suc, ◌+◌, ◌≤◌, Bool, true, false, ◌||◌, if◌then◌else◌, List, [], ◌∷◌, take, drop, sum_by, refl, ap, arith}
use Rattle.std.proofs.lemmas.List.Sums.{sum_by-cons}
use Rattle.std.proofs.lemmas.Result.{IfOk-weaker}
use Rattle.std.specs.Prelude.{is_some, unwrap_or, Result, Err, IfOk}
use Rattle.ts_spec.specs.Key.{same}
use Rattle.ts_spec.specs.Labels.{with_label}
use Rattle.ts_spec.specs.Names.{Table, named}
use Rattle.ts_spec.specs.Refusal.{Fault, BadLabels}
use Rattle.ts_spec.specs.SeriesOptions.{is_empty, chunk_size_word, policy_word, encoding_word, retention_word, ignore_time_word, ignore_value_word, labels_after, count_pairs, retention, encoding, chunk_size, duplicate_policy, ignore, on_duplicate, timestamp, labels, series_options, alter_options, add_options, incr_options}
use Rattle.ts_spec.specs.Settings.{Word, at_word, Given, nothing, Setting, one_word, two_words, new_setting, is_known, options}
use Rattle.ts_spec.specs.State.{Label}
use Rattle.ts_journal.specs.Record.{label_pairs}
use Rattle.ts_journal.proofs.Readable.{then-ok, then-any, either-ok}
use Rattle.ts_journal.proofs.ReadableOptions.{EachRow, named-holds, chosen}

-- Words are among others: whatever a word weighs, they weigh no more together.
abbrev pub IsAmong : List Word → List Word → Type 0
IsAmong some words = (weight : Word → ℕ) → sum_by weight some ≤ sum_by weight words

-- ---- labels

weight-pair : (weight : Word → ℕ) (l : Label) (ls : List Label) → sum_by weight (label_pairs (l ∷ ls)) ≡ weight l.name + weight l.value + sum_by weight (label_pairs ls)
weight-pair weight l ls = omega (arith, sum_by-cons weight l.name (l.value ∷ label_pairs ls), sum_by-cons weight l.value (label_pairs ls))

with-weight : (weight : Word → ℕ) (x : Label) (ls : List Label)
    → sum_by weight (label_pairs (with_label x ls)) ≤ sum_by weight (label_pairs ls) + weight x.name + weight x.value
with-weight weight x [] = omega (arith, weight-pair weight x [])
with-weight weight x (l ∷ ls) = go (same l.name x.name) (with-weight weight x ls)
  where
    go : (b : Bool) → sum_by weight (label_pairs (with_label x ls)) ≤ sum_by weight (label_pairs ls) + weight x.name + weight x.value
        → sum_by weight (label_pairs (if b then x ∷ ls else l ∷ with_label x ls)) ≤ sum_by weight (label_pairs (l ∷ ls)) + weight x.name + weight x.value
    go true h = omega (arith, weight-pair weight x ls, weight-pair weight l ls)
    go false h = omega (arith, weight-pair weight l (with_label x ls), weight-pair weight l ls, h)

-- labels are no heavier than those before them and the words that were read
abbrev GivesLabels : List Label → List Word → List Label → Type 0
GivesLabels before words after = (weight : Word → ℕ) → sum_by weight (label_pairs after) ≤ sum_by weight (label_pairs before) + sum_by weight words

labels-given : (ls : List Label) (words : List Word) → IfOk (labels_after ls words) (GivesLabels ls words)
labels-given ls [] = λ weight. omega arith
labels-given ls (name ∷ []) = tt
labels-given ls (name ∷ value ∷ words) =
    let x : Label = record { name = name; value = value } in
    either-ok (GivesLabels ls (name ∷ value ∷ words)) (is_empty name || is_empty value) (Err BadLabels) (labels_after (with_label x ls) words) tt
    (IfOk-weaker (labels_after (with_label x ls) words) (GivesLabels (with_label x ls) words) (GivesLabels ls (name ∷ value ∷ words))
    (λ after h weight. omega (arith, h weight, with-weight weight x ls, sum_by-cons weight name (value ∷ words), sum_by-cons weight value words)) (labels-given (with_label x ls) words))

-- ---- options

abbrev labels_in : Given → List Label
labels_in given = unwrap_or given.labels []

abbrev Adds : Table Setting → Setting → Type 0
Adds known setting = (words : List Word) (given : Given)
    → IfOk (setting.says (take (setting.size (is_known known) words) words) given)
    (λ more. GivesLabels (labels_in given) (take (setting.size (is_known known) words) words) (labels_in more))

kept : (given more : Given) (words : List Word) → more.labels ≡ given.labels → GivesLabels (labels_in given) words (labels_in more)
kept given more words same weight =
    let e : sum_by weight (label_pairs (labels_in more)) ≡ sum_by weight (label_pairs (labels_in given)) = ap (λ o. sum_by weight (label_pairs (unwrap_or o []))) same in
    omega (arith, e)

adds-one : (known : Table Setting) (stood : Given → Bool) (read : Word → Given → Result Given Fault)
    → ((word : Word) (given : Given) → IfOk (read word given) (λ more. more.labels ≡ given.labels)) → Adds known (one_word stood read)
adds-one known stood read h [] given = tt
adds-one known stood read h (word ∷ words) given =
    IfOk-weaker (read word given) (λ more. more.labels ≡ given.labels) (λ more. GivesLabels (labels_in given) (word ∷ []) (labels_in more))
    (λ more same. kept given more (word ∷ []) same) (h word given)

adds-two : (known : Table Setting) (stood : Given → Bool) (read : Word → Word → Given → Result Given Fault)
    → ((one two : Word) (given : Given) → IfOk (read one two given) (λ more. more.labels ≡ given.labels)) → Adds known (two_words stood read)
adds-two known stood read h [] given = tt
adds-two known stood read h (one ∷ []) given = tt
adds-two known stood read h (one ∷ two ∷ words) given =
    IfOk-weaker (read one two given) (λ more. more.labels ≡ given.labels) (λ more. GivesLabels (labels_in given) (one ∷ two ∷ []) (labels_in more))
    (λ more same. kept given more (one ∷ two ∷ []) same) (h one two given)

adds-retention : (known : Table Setting) → Adds known retention
adds-retention known = adds-one known (λ given. is_some given.retention) _ (λ word given. then-any (λ more. more.labels ≡ given.labels) (retention_word word) _ (λ n. refl))

adds-encoding : (known : Table Setting) → Adds known encoding
adds-encoding known = adds-one known (λ given. is_some given.encoding) _ (λ word given. then-any (λ more. more.labels ≡ given.labels) (encoding_word word) _ (λ e. refl))

adds-chunk_size : (known : Table Setting) → Adds known chunk_size
adds-chunk_size known = adds-one known (λ given. is_some given.chunk_size) _ (λ word given. then-any (λ more. more.labels ≡ given.labels) (chunk_size_word word) _ (λ n. refl))

adds-policy : (known : Table Setting) → Adds known duplicate_policy
adds-policy known = adds-one known (λ given. is_some given.policy) _ (λ word given. then-any (λ more. more.labels ≡ given.labels) (policy_word word) _ (λ p. refl))

adds-on : (known : Table Setting) → Adds known on_duplicate
adds-on known = adds-one known (λ given. is_some given.on) _ (λ word given. then-any (λ more. more.labels ≡ given.labels) (policy_word word) _ (λ p. refl))

adds-timestamp : (known : Table Setting) → Adds known timestamp
adds-timestamp known = adds-one known (λ given. is_some given.at) _ (λ word given. then-any (λ more. more.labels ≡ given.labels) (at_word word) _ (λ at. refl))

adds-ignore : (known : Table Setting) → Adds known ignore
adds-ignore known = adds-two known (λ given. is_some given.ignore) _ (λ one two given.
    then-any (λ more. more.labels ≡ given.labels) (ignore_time_word one) _ (λ t. then-any (λ more. more.labels ≡ given.labels) (ignore_value_word two) _ (λ v. refl)))

adds-labels : (known : Table Setting) → Adds known labels
adds-labels known words given =
    let own = take (count_pairs (is_known known) words) words in
    then-ok (GivesLabels [] own) (λ more. GivesLabels (labels_in given) own (labels_in more)) (labels_after [] own) _ (labels-given [] own)
    (λ ls h weight. omega (arith, h weight))

weight-split : (weight : Word → ℕ) (n : ℕ) (words : List Word) → sum_by weight words ≡ sum_by weight (take n words) + sum_by weight (drop n words)
weight-split weight zero words = omega arith
weight-split weight (suc n) [] = omega arith
weight-split weight (suc n) (word ∷ words) =
    omega (arith, sum_by-cons weight word words, sum_by-cons weight word (take n words), weight-split weight n words)

options-given : (known : Table Setting) → EachRow (Adds known) known → (own : ℕ) (words : List Word) (given : Given)
    → IfOk (options known given own words) (λ more. GivesLabels (labels_in given) (drop own words) (labels_in more))
options-given known each zero [] given = λ weight. omega arith
options-given known each (suc own) [] given = λ weight. omega arith
options-given known each (suc own) (word ∷ words) given = options-given known each own words given
options-given known each zero (word ∷ words) given =
    then-ok (Adds known) (λ more. GivesLabels (labels_in given) (word ∷ words) (labels_in more)) (new_setting given (named known word)) _
    (chosen (Adds known) given (named known word) (named-holds (Adds known) known word each))
    (λ setting adds.
    let size = setting.size (is_known known) words in
    then-ok (λ more. GivesLabels (labels_in given) (take size words) (labels_in more)) (λ more. GivesLabels (labels_in given) (word ∷ words) (labels_in more))
    (setting.says (take size words) given) _ (adds words given)
    (λ next h. IfOk-weaker (options known next size words) (λ more. GivesLabels (labels_in next) (drop size words) (labels_in more))
    (λ more. GivesLabels (labels_in given) (word ∷ words) (labels_in more))
    (λ more k weight. omega (arith, h weight, k weight, weight-split weight size words, sum_by-cons weight word words)) (options-given known each size words next)))

-- the labels that options give are among their words
abbrev pub AreAmong : Table Setting → Type 0
AreAmong known = (words : List Word) → IfOk (options known nothing 0 words) (λ given. IsAmong (label_pairs (unwrap_or given.labels [])) words)

from-nothing : (known : Table Setting) → EachRow (Adds known) known → AreAmong known
from-nothing known each words =
    IfOk-weaker (options known nothing 0 words) (λ given. GivesLabels [] words (labels_in given)) (λ given. IsAmong (label_pairs (labels_in given)) words)
    (λ given h weight. omega (arith, h weight)) (options-given known each 0 words nothing)

series-add : (known : Table Setting) → EachRow (Adds known) series_options
unfolding series_options
series-add known = (adds-retention known, (adds-encoding known, (adds-chunk_size known, (adds-policy known, (adds-ignore known, (adds-labels known, tt))))))

alter-add : (known : Table Setting) → EachRow (Adds known) alter_options
unfolding alter_options
alter-add known = (adds-retention known, (adds-chunk_size known, (adds-policy known, (adds-ignore known, (adds-labels known, tt)))))

add-add : (known : Table Setting) → EachRow (Adds known) add_options
unfolding add_options
add-add known = (adds-on known, series-add known)

incr-add : (known : Table Setting) → EachRow (Adds known) incr_options
unfolding incr_options
incr-add known = (adds-timestamp known, series-add known)

pub series-among : AreAmong series_options
series-among = from-nothing series_options (series-add series_options)

pub alter-among : AreAmong alter_options
alter-among = from-nothing alter_options (alter-add alter_options)

pub add-among : AreAmong add_options
add-among = from-nothing add_options (add-add add_options)

pub incr-among : AreAmong incr_options
incr-among = from-nothing incr_options (incr-add incr_options)
