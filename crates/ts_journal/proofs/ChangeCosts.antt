-- The record of a change is not much longer than the arguments that it was parsed from.
use Rattle.std.proofs.Common.{ℕ, ◌≤◌, Bool, true, false, if◌then◌else◌, List, [], ◌∷◌, length, codes, refl, arith}
use Rattle.std.specs.Fmt.{decimal}
use Rattle.std.specs.Prelude.{ℤ, unwrap_or, flat_map, Result, Ok, Err, IfOk}
use Rattle.ts_spec.specs.declared.command.At.{At}
use Rattle.ts_spec.specs.Command.{Triple, Command, Drop}
use Rattle.ts_spec.specs.Grammar.{create, alter, add, triples, madd, incr, del_range, is_aggregation, rule_align, rule_buckets, create_rule, delete_rule}
use Rattle.ts_spec.specs.Outcome.{time_of}
use Rattle.ts_spec.specs.Ranges.{aggregator_word, duration_word, IsDuration}
use Rattle.ts_spec.specs.Refusal.{Fault, BadOption}
use Rattle.ts_spec.specs.SeriesOptions.{series_options, alter_options, add_options, incr_options, spec, change}
use Rattle.ts_spec.specs.Settings.{Word, IsTime, time_word, end_word, at_word, value_word, nothing, options}
use Rattle.ts_spec.specs.Text.{Reply, Replies, Empty}
use Rattle.ts_spec.specs.Text as text
use Rattle.ts_spec.specs.Value.{value, shown_value}
use Rattle.ts_spec.specs.Value as value_
use Rattle.ts_journal.specs.Record.{on_duplicate_words, label_pairs, sample_words, triple_words, with_name, items_of, is_number, accepted_part, accepted, record_words}
use Rattle.ts_journal.proofs.Among.{IsAmong, series-among, alter-among, add-among, incr-among}
use Rattle.ts_journal.proofs.Costs.{Costs, costs-then, costs-none, costs-two, costs-same, costs-more, costs-first, costs-among}
use Rattle.ts_journal.proofs.Lengths.{length-number, length-value}
use Rattle.ts_journal.proofs.Readable.{then-ok, then-any, either-ok, IsSmall, end-small, at-small, time-resolved, IsBounded, value-bounded}
use Rattle.ts_journal.proofs.ReadableOptions.{IsReadableGiven, series-readable, alter-readable, add-readable, incr-readable, spec-readable, change-readable}
use Rattle.ts_journal.proofs.ReadableChanges.{align-read, duration-read, clock-usual}
use Rattle.ts_journal.proofs.OptionCosts.{both, always, named-cost, number-cost, value-cost, aggregator-cost, on-cost, given-any, spec-cost, change-cost}

-- ---- the words after a command's name

-- the record of a command costs no more than these words allow
abbrev pub Costed : List Word → Command → Type 0
Costed words c = (reading : ℕ) (reply : Reply) → Costs (record_words reading (accepted c reply)) words 32 512

pub no-record : (words : List Word) → Costs [] words 32 512
no-record words = costs-more 32 512 (costs-none words) (omega arith) (omega arith)

pub create-costed : (words : List Word) → IfOk (create words) (Costed words)
create-costed [] = tt
create-costed (key ∷ words) =
    then-ok (λ given. IsReadableGiven series_options given × IsAmong (label_pairs (unwrap_or given.labels [])) words) (Costed (key ∷ words)) (options series_options nothing 0 words) _
    (both (IsReadableGiven series_options) _ (options series_options nothing 0 words) (series-readable words) (series-among words))
    (λ given h reading reply. costs-more 32 512
    (costs-then (named-cost (codes "TS.CREATE") 9 refl (omega arith)) (costs-then (costs-same key)
    (spec-cost series_options (spec given) words (spec-readable series_options given h.0) h.1))) (omega arith) (omega arith))

pub alter-costed : (words : List Word) → IfOk (alter words) (Costed words)
alter-costed [] = tt
alter-costed (key ∷ words) =
    then-ok (λ given. IsReadableGiven alter_options given × IsAmong (label_pairs (unwrap_or given.labels [])) words) (Costed (key ∷ words)) (options alter_options nothing 0 words) _
    (both (IsReadableGiven alter_options) _ (options alter_options nothing 0 words) (alter-readable words) (alter-among words))
    (λ given h reading reply. costs-more 32 512
    (costs-then (named-cost (codes "TS.ALTER") 8 refl (omega arith)) (costs-then (costs-same key)
    (change-cost (change given) words (change-readable alter_options given h.0) h.1))) (omega arith) (omega arith))

pub add-costed : (words : List Word) → IfOk (add words) (Costed words)
add-costed [] = tt
add-costed (key ∷ []) = tt
add-costed (key ∷ time ∷ []) = tt
add-costed (key ∷ time ∷ amount ∷ words) =
    then-ok IsTime (Costed (key ∷ time ∷ amount ∷ words)) (at_word time) _ (at-small time)
    (λ at early. then-ok IsBounded (Costed (key ∷ time ∷ amount ∷ words)) (value_word amount) _ (value-bounded amount)
    (λ v small. then-ok (λ given. IsReadableGiven add_options given × IsAmong (label_pairs (unwrap_or given.labels [])) words) (Costed (key ∷ time ∷ amount ∷ words))
    (options add_options nothing 0 words) _
    (both (IsReadableGiven add_options) _ (options add_options nothing 0 words) (add-readable words) (add-among words))
    (λ given h reading reply. costs-more 32 512
    (costs-then (named-cost (codes "TS.ADD") 6 refl (omega arith)) (costs-then (costs-same key)
    (costs-then (number-cost (time_of reading at) (time-resolved reading at early)) (costs-then (value-cost v small)
    (costs-first time (costs-first amount (costs-then (given-any on_duplicate_words given.on 2 17 on-cost)
    (spec-cost add_options (spec given) words (spec-readable add_options given h.0) h.1)))))))) (omega arith) (omega arith))))

pub incr-costed : (signed : ℤ → ℤ) → ((v : ℤ) → IsBounded v → IsBounded (signed v)) → (words : List Word) → IfOk (incr signed words) (Costed words)
incr-costed signed keeps [] = tt
incr-costed signed keeps (key ∷ []) = tt
incr-costed signed keeps (key ∷ amount ∷ words) =
    then-ok IsBounded (Costed (key ∷ amount ∷ words)) (value_word amount) _ (value-bounded amount)
    (λ v small. then-ok (λ given. IsReadableGiven incr_options given × IsAmong (label_pairs (unwrap_or given.labels [])) words) (Costed (key ∷ amount ∷ words))
    (options incr_options nothing 0 words) _
    (both (IsReadableGiven incr_options) _ (options incr_options nothing 0 words) (incr-readable words) (incr-among words))
    (λ given h reading reply. costs-more 32 512
    (costs-then (named-cost (codes "TS.INCRBY") 9 refl (omega arith)) (costs-then (costs-same key)
    (costs-then (value-cost (signed v) (keeps v small)) (costs-then (named-cost (codes "TIMESTAMP") 9 refl (omega arith))
    (costs-then (number-cost _ (time-resolved reading _ (clock-usual given.at h.0.at)))
    (costs-first amount (spec-cost incr_options (spec given) words (spec-readable incr_options given h.0) h.1))))))) (omega arith) (omega arith)))

-- ---- TS.MADD

at-some : (word : Word) → IfOk (at_word word) (λ at. 1 ≤ length word)
unfolding at_word time_word
at-some [] = tt
at-some (byte ∷ word) = always (λ at. 1 ≤ length (byte ∷ word)) (at_word (byte ∷ word)) (λ at. omega arith)

value-some : (word : Word) → IfOk (value_word word) (λ v. 1 ≤ length word)
unfolding value_word value value_.decimal
value-some [] = tt
value-some (byte ∷ word) = always (λ v. 1 ≤ length (byte ∷ word)) (value_word (byte ∷ word)) (λ v. omega arith)

sample-cost : (reading : ℕ) (key time amount : Word) (at : Result At Fault) (v : Result ℤ Fault) → IfOk at IsTime → IfOk at (λ at. 1 ≤ length time) → IfOk v IsBounded → IfOk v (λ v. 1 ≤ length amount)
    → Costs (sample_words reading key at v) (key ∷ time ∷ amount ∷ []) 0 0
sample-cost reading key time amount (Ok at) (Ok v) early one small other = pair
  where
    few-digits : length (decimal (time_of reading at)) ≤ 19
    few-digits = length-number (time_of reading at) (omega (arith, time-resolved reading at early))

    few : length (shown_value v) ≤ 27
    few = length-value v small

    pair : Costs (key ∷ decimal (time_of reading at) ∷ shown_value v ∷ []) (key ∷ time ∷ amount ∷ []) 0 0
    pair = costs-then (costs-same key) (costs-two (decimal (time_of reading at)) (shown_value v) time amount (omega (arith, few-digits)) (omega (arith, few)) (omega (arith, few-digits, few, one, other)))
sample-cost reading key time amount (Ok at) (Err fault) early one small other = costs-none (key ∷ time ∷ amount ∷ [])
sample-cost reading key time amount (Err fault) v early one small other = costs-none (key ∷ time ∷ amount ∷ [])

accepted_part-cost : (reading : ℕ) (words : List Word) (replies : Replies) → Costs (flat_map (triple_words reading) (accepted_part (triples words) replies)) words 0 0
accepted_part-cost reading [] replies = costs-none []
accepted_part-cost reading (key ∷ []) replies = costs-none (key ∷ [])
accepted_part-cost reading (key ∷ time ∷ []) replies = costs-none (key ∷ time ∷ [])
accepted_part-cost reading (key ∷ time ∷ amount ∷ words) Empty = costs-none (key ∷ time ∷ amount ∷ words)
accepted_part-cost reading (key ∷ time ∷ amount ∷ words) (text.Replies.Item reply replies) = go (is_number reply) (accepted_part-cost reading words replies)
  where
    t : Triple
    t = record { key = key; at = at_word time; value = value_word amount }

    go : (b : Bool) → Costs (flat_map (triple_words reading) (accepted_part (triples words) replies)) words 0 0
        → Costs (flat_map (triple_words reading) (if b then t ∷ accepted_part (triples words) replies else accepted_part (triples words) replies)) (key ∷ time ∷ amount ∷ words) 0 0
    go true others =
        costs-then {vs = key ∷ time ∷ amount ∷ []} (sample-cost reading key time amount (at_word time) (value_word amount) (at-small time) (at-some time) (value-bounded amount) (value-some amount)) others
    go false others = costs-first key (costs-first time (costs-first amount others))

with_name-cost : (put words : List Word) → Costs put words 0 0 → Costs (with_name (codes "TS.MADD") put) words 32 512
with_name-cost [] words h = no-record words
with_name-cost (word ∷ put) words h = costs-more 32 512 (costs-then (named-cost (codes "TS.MADD") 7 refl (omega arith)) h) (omega arith) (omega arith)

pub madd-costed : (words : List Word) → IfOk (madd words) (Costed words)
madd-costed words = λ reading reply. with_name-cost _ words (accepted_part-cost reading words (items_of reply))

-- ---- without options

pub del_range-costed : (words : List Word) → IfOk (del_range words) (Costed words)
del_range-costed [] = tt
del_range-costed (key ∷ []) = tt
del_range-costed (key ∷ from ∷ []) = tt
del_range-costed (key ∷ from ∷ to ∷ words) =
    then-ok IsSmall (Costed (key ∷ from ∷ to ∷ words)) (end_word from) _ (end-small from)
    (λ first h. then-ok IsSmall (Costed (key ∷ from ∷ to ∷ words)) (end_word to) _ (end-small to)
    (λ last k reading reply. costs-more 32 512
    (costs-then (named-cost (codes "TS.DEL") 6 refl (omega arith)) (costs-then (costs-same key)
    (costs-then (number-cost first h) (costs-then (number-cost last k) (costs-none (from ∷ to ∷ words)))))) (omega arith) (omega arith)))

buckets-costed : (source dest option : Word) (words : List Word) → IfOk (rule_buckets source dest words) (Costed (source ∷ dest ∷ option ∷ words))
buckets-costed source dest option [] = tt
buckets-costed source dest option (name ∷ []) = tt
buckets-costed source dest option (name ∷ len ∷ words) =
    let all = source ∷ dest ∷ option ∷ name ∷ len ∷ words in
    then-any (Costed all) (aggregator_word name) _ (λ a. then-ok IsDuration (Costed all) (duration_word len) _ (duration-read len)
    (λ n short. then-ok IsSmall (Costed all) (rule_align words) _ (align-read words) (λ t early reading reply. costs-more 32 512
    (costs-then (named-cost (codes "TS.CREATERULE") 13 refl (omega arith)) (costs-then (costs-same source) (costs-then (costs-same dest)
    (costs-then (named-cost (codes "AGGREGATION") 11 refl (omega arith)) (costs-then (aggregator-cost a)
    (costs-then (number-cost n (omega (arith, short.1))) (costs-then (number-cost t early) (costs-none (option ∷ name ∷ len ∷ words))))))))) (omega arith) (omega arith))))

pub create_rule-costed : (words : List Word) → IfOk (create_rule words) (Costed words)
create_rule-costed [] = tt
create_rule-costed (source ∷ []) = tt
create_rule-costed (source ∷ dest ∷ []) = tt
create_rule-costed (source ∷ dest ∷ option ∷ words) =
    either-ok (Costed (source ∷ dest ∷ option ∷ words)) (is_aggregation option) (rule_buckets source dest words) (Err BadOption) (buckets-costed source dest option words) tt

pub delete_rule-costed : (words : List Word) → IfOk (delete_rule words) (Costed words)
delete_rule-costed [] = tt
delete_rule-costed (source ∷ []) = tt
delete_rule-costed (source ∷ dest ∷ words) = λ reading reply. costs-more 32 512
    (costs-then (named-cost (codes "TS.DELETERULE") 13 refl (omega arith)) (costs-then (costs-same source) (costs-then (costs-same dest) (costs-none words)))) (omega arith) (omega arith)

pub drop-costed : (keys : List Word) → Costed keys (Drop keys)
drop-costed keys reading reply = costs-more 32 512 (costs-then (named-cost (codes "DEL") 3 refl (omega arith)) (costs-among (λ weight. omega arith))) (omega arith) (omega arith)
