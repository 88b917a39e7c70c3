-- The arguments of records parse as their commands, with times resolved.
use Rattle.std.proofs.Common.{◌≡◌, ◌≢◌, ℕ, suc, ◌*◌, ◌%◌, ◌^◌, ◌≤◌, ◌==◌, ◌&&◌, nat_le, true, if◌then◌else◌, List, [], ◌∷◌, ◌++◌, length, map, codes, refl, ◌∙◌, ap, length-append, arith}
use Rattle.std.proofs.lemmas.Bool.{le-leb, eq-eqb}
use Rattle.std.specs.Prelude.{ℤ, Option, None, unwrap_or, flat_map, Result, Ok, Err, IfOk}
use Rattle.std.specs.Fmt.{decimal}
use Rattle.ts_spec.specs.declared.bucket.Aggregator.{Aggregator}
use Rattle.ts_spec.specs.declared.bucket.Aggregator.TheVariants as agg
use Rattle.ts_spec.specs.declared.command.At.{At}
use Rattle.ts_spec.specs.declared.command.At.TheVariants.{Clock}
use Rattle.ts_spec.specs.declared.series.Policy.{Policy}
use Rattle.ts_spec.specs.Bucket.{Grid}
use Rattle.ts_spec.specs.Command.{Spec, Change, Triple, Command, Create, Alter, Add, Madd, Incr, DelRange, CreateRule, DeleteRule, Range, MRange, Get, MGet, QueryIndex, InfoOf, Ping, Echo, Quit, Drop, Exists}
use Rattle.ts_spec.specs.Grammar.{create, alter, add, triples, by_threes, incr, commands, command}
use Rattle.ts_spec.specs.Key.{Key}
use Rattle.ts_spec.specs.Names.{aggregators}
use Rattle.ts_spec.specs.Outcome.{time_of}
use Rattle.ts_spec.specs.Ranges.{aggregator_word, duration_word, IsDuration}
use Rattle.ts_spec.specs.Refusal.{Fault, Arity}
use Rattle.ts_spec.specs.Replies.{aggregator_name}
use Rattle.ts_spec.specs.ResolvedCommands.{resolved_at, resolved_triple, resolved}
use Rattle.ts_spec.specs.Sample.{MAX_TIME}
use Rattle.ts_spec.specs.SeriesOptions.{series_options, alter_options, add_options, incr_options, spec, change}
use Rattle.ts_spec.specs.Settings.{Word, IsTime, and_then, value_word, nothing, options}
use Rattle.ts_spec.specs.Value.{shown_value}
use Rattle.ts_journal.specs.Record as record_
use Rattle.ts_journal.specs.Record.{on_duplicate_words, spec_words, change_words, triple_words, sample_words, with_name, record_words}
use Rattle.ts_journal.proofs.Numbers.{number-decimal, time-decimal, end-decimal, at-decimal}
use Rattle.ts_journal.proofs.OptionWords.{value-shown, series-knows}
use Rattle.ts_journal.proofs.OptionsRead.{spec-read, change-read, add-options-read, incr-options-read}
use Rattle.ts_journal.proofs.Readable.{IsBounded, time-resolved}
use Rattle.ts_journal.proofs.ReadableOptions.{IsReadableSpec, IsReadableChange}
use Rattle.ts_journal.proofs.ReadableChanges.{AreReadableTriples, IsReadable}

duration-decimal : (n : ℕ) → IsDuration n → duration_word (decimal n) ≡ Ok n
unfolding duration_word
duration-decimal n h =
    let from : nat_le 1 n ≡ true = le-leb 1 n h.0 in
    let to : nat_le n (10 ^ 14) ≡ true = le-leb n (10 ^ 14) h.1 in
    rw (number-decimal n (omega arith), from, to) refl

aggregator-name : (a : Aggregator) → aggregator_word (aggregator_name a) ≡ Ok a
unfolding aggregator_word aggregators
aggregator-name agg.Avg = refl
aggregator-name agg.Sum = refl
aggregator-name agg.Min = refl
aggregator-name agg.Max = refl
aggregator-name agg.Range = refl
aggregator-name agg.Count = refl
aggregator-name agg.First = refl
aggregator-name agg.Last = refl

-- ---- the words of a record are the command

delete_rule-reads : (reading : ℕ) (source dest : Key) → command (record_words reading (DeleteRule source dest)) ≡ Ok (DeleteRule source dest)
unfolding commands
delete_rule-reads reading source dest = refl

drop-reads : (reading : ℕ) (key : Key) (keys : List Key) → command (record_words reading (Drop (key ∷ keys))) ≡ Ok (Drop (key ∷ keys))
unfolding commands
drop-reads reading key keys = rw (le-leb 2 (suc (suc (length keys))) (omega arith)) refl

del_range-reads : (reading : ℕ) (key : Key) (from to : ℕ) → from ≤ MAX_TIME → to ≤ MAX_TIME → command (record_words reading (DelRange key from to)) ≡ Ok (DelRange key from to)
unfolding commands
del_range-reads reading key from to first last = rw (end-decimal from first, end-decimal to last) refl

create_rule-reads : (reading : ℕ) (source dest : Key) (a : Aggregator) (grid : Grid) → grid.align ≤ MAX_TIME → IsDuration grid.duration
    → command (record_words reading (CreateRule source dest a grid)) ≡ Ok (CreateRule source dest a grid)
unfolding commands
create_rule-reads reading source dest a grid early short = rw (aggregator-name a, duration-decimal grid.duration short, time-decimal grid.align early) refl

-- ---- commands with options

create-reads : (reading : ℕ) (key : Key) (s : Spec) → IsReadableSpec series_options s → command (record_words reading (Create key s)) ≡ Ok (Create key s)
unfolding commands
create-reads reading key s h =
    ap (λ b. if b then create (key ∷ spec_words s) else Err Arity) (le-leb 2 (suc (length (key ∷ spec_words s))) (omega arith))
    ∙ ap (λ r. and_then r (λ given. Ok (Create key (spec given)))) (spec-read series_options series-knows None None s h)

alter-reads : (reading : ℕ) (key : Key) (c : Change) → IsReadableChange alter_options c → command (record_words reading (Alter key c)) ≡ Ok (Alter key c)
unfolding commands
alter-reads reading key c h =
    ap (λ b. if b then alter (key ∷ change_words c) else Err Arity) (le-leb 2 (suc (length (key ∷ change_words c))) (omega arith))
    ∙ ap (λ r. and_then r (λ given. Ok (Alter key (change given)))) (change-read c h)

add-reads : (reading : ℕ) (key : Key) (at : At) (v : ℤ) (on : Option Policy) (s : Spec) → time_of reading at ≤ MAX_TIME → IsBounded v → IsReadableSpec add_options s
    → command (record_words reading (Add key at v on s)) ≡ Ok (Add key (resolved_at reading at) v on s)
unfolding commands
add-reads reading key at v on s early small h =
    let words : List Word = record_.given on_duplicate_words on ++ spec_words s in
    ap (λ b. if b then add (key ∷ decimal (time_of reading at) ∷ shown_value v ∷ words) else Err Arity)
    (le-leb 4 (suc (length (key ∷ decimal (time_of reading at) ∷ shown_value v ∷ words))) (omega arith))
    ∙ ap (λ r. and_then r (λ t. and_then (value_word (shown_value v)) (λ x. and_then (options add_options nothing 0 words) (λ given. Ok (Add key t x given.on (spec given))))))
    (at-decimal (time_of reading at) early)
    ∙ ap (λ r. and_then r (λ x. and_then (options add_options nothing 0 words) (λ given. Ok (Add key (resolved_at reading at) x given.on (spec given))))) (value-shown v small)
    ∙ ap (λ r. and_then r (λ given. Ok (Add key (resolved_at reading at) v given.on (spec given)))) (add-options-read on s h)

incr-reads : (reading : ℕ) (key : Key) (v : ℤ) (at : At) (s : Spec) → time_of reading at ≤ MAX_TIME → IsBounded v → IsReadableSpec incr_options s
    → command (record_words reading (Incr key v at s)) ≡ Ok (Incr key v (resolved_at reading at) s)
unfolding commands
incr-reads reading key v at s early small h =
    let words : List Word = codes "TIMESTAMP" ∷ decimal (time_of reading at) ∷ spec_words s in
    ap (λ b. if b then incr (λ x. x) (key ∷ shown_value v ∷ words) else Err Arity) (le-leb 3 (suc (length (key ∷ shown_value v ∷ words))) (omega arith))
    ∙ ap (λ r. and_then r (λ x. and_then (options incr_options nothing 0 words) (λ given. Ok (Incr key x (unwrap_or given.at Clock) (spec given)))))
    (value-shown v small)
    ∙ ap (λ r. and_then r (λ given. Ok (Incr key v (unwrap_or given.at Clock) (spec given)))) (incr-options-read (time_of reading at) s early h)

-- ---- TS.MADD

-- a sample that has a time and a value
abbrev pub IsSample : Result At Fault → Result ℤ Fault → Type 0
IsSample (Ok at) (Ok v) = Unit {0}
IsSample _ _ = ⊥

abbrev pub AreSamples : List Triple → Type 0
AreSamples [] = Unit {0}
AreSamples (t ∷ ts) = IsSample t.at t.value × AreSamples ts

sample-reads : (reading : ℕ) (key : Key) (at : Result At Fault) (v : Result ℤ Fault) (more : List Word) → IsSample at v → IfOk at IsTime → IfOk v IsBounded
    → triples (sample_words reading key at v ++ more) ≡ resolved_triple reading (record { key = key; at = at; value = v }) ∷ triples more
sample-reads reading key (Ok at) (Ok v) more s early small = rw (at-decimal (time_of reading at) (time-resolved reading at early), value-shown v small) refl
sample-reads reading key (Ok at) (Err fault) more s early small = absurd s
sample-reads reading key (Err fault) v more s early small = absurd s

triples-read : (reading : ℕ) (ts : List Triple) → AreSamples ts → AreReadableTriples ts → triples (flat_map (triple_words reading) ts) ≡ map (resolved_triple reading) ts
triples-read reading [] s h = refl
triples-read reading (t ∷ ts) s h =
    sample-reads reading t.key t.at t.value (flat_map (triple_words reading) ts) s.0 h.0.at h.0.value ∙ ap (λ us. resolved_triple reading t ∷ us) (triples-read reading ts s.1 h.1)

-- three words for each
sample-count : (reading : ℕ) (key : Key) (at : Result At Fault) (v : Result ℤ Fault) → IsSample at v → length (sample_words reading key at v) ≡ 3
sample-count reading key (Ok at) (Ok v) s = refl
sample-count reading key (Ok at) (Err fault) s = absurd s
sample-count reading key (Err fault) v s = absurd s

pub samples-count : (reading : ℕ) (ts : List Triple) → AreSamples ts → length (flat_map (triple_words reading) ts) ≡ 3 * length ts
samples-count reading [] s = refl
samples-count reading (t ∷ ts) s =
    let all = length-append (triple_words reading t) (flat_map (triple_words reading) ts) in
    omega (arith, all, sample-count reading t.key t.at t.value s.0, samples-count reading ts s.1)

threes : (n k : ℕ) → n ≡ 3 * k → 1 ≤ k → by_threes (suc n) ≡ true
threes n k e some =
    ap (λ b. b && (suc n % 3 == 1)) (le-leb 4 (suc n) (omega (arith, e, some))) ∙ eq-eqb (suc n % 3) 1 (omega (arith, e))

named-some : (name : Word) (words : List Word) → with_name name words ≢ [] → with_name name words ≡ name ∷ words
named-some name [] some = absurd (some refl)
named-some name (word ∷ words) some = refl

samples-some : (reading : ℕ) (name : Word) (ts : List Triple) → with_name name (flat_map (triple_words reading) ts) ≢ [] → 1 ≤ length ts
samples-some reading name [] some = absurd (some refl)
samples-some reading name (t ∷ ts) some = omega arith

madd-reads : (reading : ℕ) (ts : List Triple) → AreSamples ts → AreReadableTriples ts → record_words reading (Madd ts) ≢ []
    → command (record_words reading (Madd ts)) ≡ Ok (Madd (map (resolved_triple reading) ts))
unfolding commands
madd-reads reading ts s h some =
    let words : List Word = flat_map (triple_words reading) ts in
    ap command (named-some (codes "TS.MADD") words some)
    ∙ ap (λ b. if b then Ok (Madd (triples words)) else Err Arity)
    (threes (length words) (length ts) (samples-count reading ts s) (samples-some reading (codes "TS.MADD") ts some))
    ∙ ap (λ us. Ok (Madd us)) (triples-read reading ts s h)

-- ---- all of them

-- of TS.MADD, all triples are samples
abbrev pub IsWhole : Command → Type 0
IsWhole (Madd ts) = AreSamples ts
IsWhole c = Unit {0}

pub reads-back : (reading : ℕ) (c : Command) → IsReadable c → IsWhole c → record_words reading c ≢ [] → command (record_words reading c) ≡ Ok (resolved reading c)
reads-back reading (Create key s) h w some = create-reads reading key s h
reads-back reading (Alter key c) h w some = alter-reads reading key c h
reads-back reading (Add key at v on s) h w some = add-reads reading key at v on s (time-resolved reading at h.0) h.1 h.2
reads-back reading (Madd ts) h w some = madd-reads reading ts w h some
reads-back reading (Incr key v at s) h w some = incr-reads reading key v at s (time-resolved reading at h.0) h.1 h.2
reads-back reading (DelRange key from to) h w some = del_range-reads reading key from to h.0 h.1
reads-back reading (CreateRule source dest a grid) h w some = create_rule-reads reading source dest a grid h.0 h.1
reads-back reading (DeleteRule source dest) h w some = delete_rule-reads reading source dest
reads-back reading (Range key latest q) h w some = absurd (some refl)
reads-back reading (MRange latest show filters q group) h w some = absurd (some refl)
reads-back reading (Get key latest) h w some = absurd (some refl)
reads-back reading (MGet latest show filters) h w some = absurd (some refl)
reads-back reading (QueryIndex filters) h w some = absurd (some refl)
reads-back reading (InfoOf key) h w some = absurd (some refl)
reads-back reading (Ping word) h w some = absurd (some refl)
reads-back reading (Echo word) h w some = absurd (some refl)
reads-back reading Quit h w some = absurd (some refl)
reads-back reading (Drop []) h w some = absurd (h refl)
reads-back reading (Drop (key ∷ keys)) h w some = drop-reads reading key keys
reads-back reading (Exists keys) h w some = absurd (some refl)
