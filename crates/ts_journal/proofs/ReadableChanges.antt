-- The parts of a parsed change are in their ranges.
use Rattle.std.proofs.Common.{◌≡◌, ◌≢◌, ℕ, ◌≤◌, ◌^◌, nat_le, Bool, true, false, if◌then◌else◌, List, [], ◌∷◌, refl, arith}
use Rattle.std.proofs.lemmas.Bool.{leb-true, and_parts}
use Rattle.std.specs.Prelude.{ℤ, Option, unwrap_or, IfSome, ok_or, Result, Ok, Err, IfOk}
use Rattle.ts_spec.specs.declared.command.At.{At}
use Rattle.ts_spec.specs.declared.command.At.TheVariants.{Clock}
use Rattle.ts_spec.specs.Command.{Triple, Command, Create, Alter, Add, Madd, Incr, DelRange, CreateRule, Drop}
use Rattle.ts_spec.specs.Grammar.{create, alter, add, triples, incr, del_range, is_aggregation, rule_align, rule_buckets, create_rule, delete_rule}
use Rattle.ts_spec.specs.Number.{number}
use Rattle.ts_spec.specs.Ranges.{aggregator_word, is_duration, duration_word, IsDuration}
use Rattle.ts_spec.specs.Refusal.{Fault, BadOption, BadDuration}
use Rattle.ts_spec.specs.Sample.{MAX_TIME}
use Rattle.ts_spec.specs.SeriesOptions.{series_options, alter_options, add_options, incr_options}
use Rattle.ts_spec.specs.Settings.{Word, IsTime, end_word, at_word, value_word, nothing, options}
use Rattle.ts_journal.proofs.Readable.{then-ok, then-any, either-ok, or-usual, IsSmall, time-small, end-small, at-small, IsBounded, value-bounded}
use Rattle.ts_journal.proofs.ReadableOptions.{IsReadableGiven, series-readable, alter-readable, add-readable, incr-readable, IsReadableSpec, spec-readable, IsReadableChange, change-readable}

-- a sample of TS.MADD, whose time or value may be none
pub record IsReadableTriple (t : Triple) : Type 0 where
  pub at : IfOk t.at IsTime
  pub value : IfOk t.value IsBounded

abbrev pub AreReadableTriples : List Triple → Type 0
AreReadableTriples [] = Unit {0}
AreReadableTriples (t ∷ ts) = IsReadableTriple t × AreReadableTriples ts

-- what a command that was read says is in its range
abbrev pub IsReadable : Command → Type 0
IsReadable (Create key s) = IsReadableSpec series_options s
IsReadable (Alter key c) = IsReadableChange alter_options c
IsReadable (Add key at v on s) = IsTime at × IsBounded v × IsReadableSpec add_options s
IsReadable (Madd triples) = AreReadableTriples triples
IsReadable (Incr key v at s) = IsTime at × IsBounded v × IsReadableSpec incr_options s
IsReadable (DelRange key from to) = (from ≤ MAX_TIME) × (to ≤ MAX_TIME)
IsReadable (CreateRule source dest agg grid) = (grid.align ≤ MAX_TIME) × IsDuration grid.duration
IsReadable (Drop keys) = keys ≢ []
IsReadable c = Unit {0}

-- ---- the words after a command's name

abbrev pub Reads : (List Word → Result Command Fault) → Type 0
Reads says = (words : List Word) → IfOk (says words) IsReadable

pub create-reads : Reads create
create-reads [] = tt
create-reads (key ∷ words) =
    then-ok (IsReadableGiven series_options) IsReadable (options series_options nothing 0 words) _ (series-readable words) (λ given h. spec-readable series_options given h)

pub alter-reads : Reads alter
alter-reads [] = tt
alter-reads (key ∷ words) =
    then-ok (IsReadableGiven alter_options) IsReadable (options alter_options nothing 0 words) _ (alter-readable words) (λ given h. change-readable alter_options given h)

pub add-reads : Reads add
add-reads [] = tt
add-reads (key ∷ []) = tt
add-reads (key ∷ time ∷ []) = tt
add-reads (key ∷ time ∷ amount ∷ words) =
    then-ok IsTime IsReadable (at_word time) _ (at-small time)
    (λ at early. then-ok IsBounded IsReadable (value_word amount) _ (value-bounded amount)
    (λ v small. then-ok (IsReadableGiven add_options) IsReadable (options add_options nothing 0 words) _ (add-readable words)
    (λ given h. (early, small, spec-readable add_options given h))))

pub triples-read : (words : List Word) → AreReadableTriples (triples words)
triples-read [] = tt
triples-read (key ∷ []) = tt
triples-read (key ∷ time ∷ []) = tt
triples-read (key ∷ time ∷ amount ∷ words) = (record { at = at-small time; value = value-bounded amount }, triples-read words)

-- the time that is given, or else the clock's
pub clock-usual : (o : Option At) → IfSome o IsTime → IsTime (unwrap_or o Clock)
clock-usual o h = or-usual IsTime o Clock h (λ t e. cc)

pub incr-reads : (signed : ℤ → ℤ) → ((v : ℤ) → IsBounded v → IsBounded (signed v)) → Reads (incr signed)
incr-reads signed keeps [] = tt
incr-reads signed keeps (key ∷ []) = tt
incr-reads signed keeps (key ∷ amount ∷ words) =
    then-ok IsBounded IsReadable (value_word amount) _ (value-bounded amount)
    (λ v small. then-ok (IsReadableGiven incr_options) IsReadable (options incr_options nothing 0 words) _ (incr-readable words)
    (λ given h. (clock-usual given.at h.at, keeps v small, spec-readable incr_options given h)))

pub del_range-reads : Reads del_range
del_range-reads [] = tt
del_range-reads (key ∷ []) = tt
del_range-reads (key ∷ from ∷ []) = tt
del_range-reads (key ∷ from ∷ to ∷ words) =
    then-ok IsSmall IsReadable (end_word from) _ (end-small from) (λ first h. then-ok IsSmall IsReadable (end_word to) _ (end-small to) (λ last k. (h, k)))

pub align-read : (words : List Word) → IfOk (rule_align words) IsSmall
align-read [] = omega arith
align-read (word ∷ words) = time-small word

pub duration-read : (word : Word) → IfOk (duration_word word) IsDuration
unfolding duration_word
duration-read word = then-any IsDuration (ok_or (number word) BadDuration) _ (λ n. go n (is_duration n) refl)
  where
    go : (n : ℕ) (b : Bool) → is_duration n ≡ b → IfOk (if b then Ok n else Err BadDuration) IsDuration
    go n true e =
        let parts = and_parts (nat_le 1 n) (nat_le n (10 ^ 14)) e in
        (leb-true 1 n parts.0, leb-true n (10 ^ 14) parts.1)
    go n false e = tt

buckets-read : (source dest : Word) → Reads (rule_buckets source dest)
buckets-read source dest [] = tt
buckets-read source dest (name ∷ []) = tt
buckets-read source dest (name ∷ len ∷ words) =
    then-any IsReadable (aggregator_word name) _ (λ agg. then-ok IsDuration IsReadable (duration_word len) _ (duration-read len)
    (λ n short. then-ok IsSmall IsReadable (rule_align words) _ (align-read words) (λ t early. (early, short))))

pub create_rule-reads : Reads create_rule
create_rule-reads [] = tt
create_rule-reads (source ∷ []) = tt
create_rule-reads (source ∷ dest ∷ []) = tt
create_rule-reads (source ∷ dest ∷ option ∷ words) =
    either-ok IsReadable (is_aggregation option) (rule_buckets source dest words) (Err BadOption) (buckets-read source dest words) tt

pub delete_rule-reads : Reads delete_rule
delete_rule-reads [] = tt
delete_rule-reads (source ∷ []) = tt
delete_rule-reads (source ∷ dest ∷ words) = tt
