-- The command grammar: the arguments of each command, and how they parse.
use Rattle.std.specs.Prelude.{ℕ, suc, ◌%◌, ℤ, neg_ℤ, Bool, true, false, ◌&&◌, ◌==◌, nat_le, if◌then◌else◌, List, [], ◌∷◌, length, drop, codes, Option, None, Some, unwrap_or, Result, Ok, Err}
use Rattle.std.specs.Str.{str_eq_ignore_ascii_case}
use Rattle.ts_spec.specs.declared.command.At.{At}
use Rattle.ts_spec.specs.declared.command.At.TheVariants.{Clock, Time}
use Rattle.ts_spec.specs.Wire.{Request}
use Rattle.ts_spec.specs.Names.{Table, named}
use Rattle.ts_spec.specs.Settings.{Word, and_then, at_word, end_word, time_word, value_word, nothing, options}
use Rattle.ts_spec.specs.SeriesOptions.{series_options, alter_options, add_options, incr_options, has_labels, spec, change}
use Rattle.ts_spec.specs.Ranges.{aggregator_word, duration_word, range_options, has_list, query}
use Rattle.ts_spec.specs.ManySeries.{filters_of, last_options, many_options, wanted, selecting, labels_asked}
use Rattle.ts_spec.specs.Command.{Triple, Command, Create, Alter, Add, Madd, Incr, DelRange, CreateRule, DeleteRule, Range, MRange, Get, MGet, QueryIndex, InfoOf, Ping, Echo, Quit, Drop, Exists}
use Rattle.ts_spec.specs.Refusal.{Fault, UnknownCommand, Arity, BadOption}

-- ---- the words after a command's name

-- `key`, then options of a new series
abbrev pub create : List Word → Result Command Fault
create [] = Err Arity
create (key ∷ words) = and_then (options series_options nothing 0 words) (λ given. Ok (Create key (spec given)))

-- `key`, then options to change
abbrev pub alter : List Word → Result Command Fault
alter [] = Err Arity
alter (key ∷ words) = and_then (options alter_options nothing 0 words) (λ given. Ok (Alter key (change given)))

-- `key time value`, then options
abbrev pub add : List Word → Result Command Fault
add (key ∷ time ∷ amount ∷ words) =
    and_then (at_word time) (λ at. and_then (value_word amount) (λ v.
    and_then (options add_options nothing 0 words) (λ given. Ok (Add key at v given.on (spec given)))))
add _ = Err Arity

-- `key time value`, repeated; a bad time or value is reported in the reply to its triple
abbrev pub triples : List Word → List Triple
triples (key ∷ time ∷ amount ∷ words) = record { key = key; at = at_word time; value = value_word amount } ∷ triples words
triples _ = []

-- TS.MADD: one or more triples
abbrev pub madd : List Word → Result Command Fault
madd words = Ok (Madd (triples words))

-- `key value`, then options; `signed` gives the sign of the change (TS.INCRBY or TS.DECRBY)
abbrev pub incr : (signed : ℤ → ℤ) → List Word → Result Command Fault
incr signed (key ∷ amount ∷ words) =
    and_then (value_word amount) (λ v.
    and_then (options incr_options nothing 0 words) (λ given. Ok (Incr key (signed v) (unwrap_or given.at Clock) (spec given))))
incr signed _ = Err Arity

-- `key from to`, both ends included
abbrev pub del_range : List Word → Result Command Fault
del_range (key ∷ from ∷ to ∷ words) = and_then (end_word from) (λ first. and_then (end_word to) (λ last. Ok (DelRange key first last)))
del_range _ = Err Arity

-- `key from to`, both ends included, then options
abbrev pub range : (reverse : Bool) → List Word → Result Command Fault
range reverse (key ∷ from ∷ to ∷ words) =
    and_then (end_word from) (λ first. and_then (end_word to) (λ last.
    and_then (options range_options nothing 0 words) (λ given.
    and_then (query reverse from to first last given) (λ q. Ok (Range key given.latest q)))))
range reverse _ = Err Arity

-- `from to`, both ends included, then options with at least one filter
abbrev pub many_ranges : (reverse : Bool) → List Word → Result Command Fault
many_ranges reverse (from ∷ to ∷ words) =
    and_then (end_word from) (λ first. and_then (end_word to) (λ last.
    and_then (options many_options nothing 0 words) (λ given.
    and_then (wanted given) (λ filters.
    and_then (query reverse from to first last given) (λ q.
    and_then (selecting filters) (λ chosen. Ok (MRange given.latest (labels_asked given) chosen q given.group)))))))
many_ranges reverse _ = Err Arity

-- options with at least one filter
abbrev pub last_of_many : List Word → Result Command Fault
last_of_many words =
    and_then (options last_options nothing 0 words) (λ given.
    and_then (wanted given) (λ filters.
    and_then (selecting filters) (λ chosen. Ok (MGet given.latest (labels_asked given) chosen))))

-- one or more filters
abbrev pub query_index : List Word → Result Command Fault
query_index words = and_then (filters_of words) (λ filters. and_then (selecting filters) (λ chosen. Ok (QueryIndex chosen)))

-- whether a word is this option name, in any case
abbrev pub is_latest : Word → Bool
is_latest word = str_eq_ignore_ascii_case (codes "LATEST") word

abbrev pub is_aggregation : Word → Bool
is_aggregation word = str_eq_ignore_ascii_case (codes "AGGREGATION") word

-- `key`, then LATEST or nothing
abbrev pub get_last : List Word → Result Command Fault
get_last [] = Err Arity
get_last (key ∷ []) = Ok (Get key false)
get_last (key ∷ word ∷ words) = if is_latest word then Ok (Get key true) else Err BadOption

-- the alignment of the buckets of a rule, 0 by default
abbrev pub rule_align : List Word → Result ℕ Fault
rule_align [] = Ok 0
rule_align (word ∷ words) = time_word word

-- the aggregator, the bucket duration, and optionally the alignment
abbrev pub rule_buckets : (source dest : Word) → List Word → Result Command Fault
rule_buckets source dest (name ∷ length ∷ words) =
    and_then (aggregator_word name) (λ agg. and_then (duration_word length) (λ n. and_then (rule_align words) (λ t.
    Ok (CreateRule source dest agg (record { align = t; duration = n })))))
rule_buckets source dest _ = Err Arity

-- `source dest AGGREGATION`, then the buckets
abbrev pub create_rule : List Word → Result Command Fault
create_rule (source ∷ dest ∷ option ∷ words) = if is_aggregation option then rule_buckets source dest words else Err BadOption
create_rule _ = Err Arity

-- `source dest`
abbrev pub delete_rule : List Word → Result Command Fault
delete_rule (source ∷ dest ∷ words) = Ok (DeleteRule source dest)
delete_rule _ = Err Arity

-- `key`
abbrev pub info : List Word → Result Command Fault
info [] = Err Arity
info (key ∷ words) = Ok (InfoOf key)

-- nothing, or a word to send back
abbrev pub ping : List Word → Result Command Fault
ping [] = Ok (Ping None)
ping (word ∷ words) = Ok (Ping (Some word))

-- a word to send back
abbrev pub echo : List Word → Result Command Fault
echo [] = Err Arity
echo (word ∷ words) = Ok (Echo word)

-- ---- the commands

-- The form of a command: the word counts that it accepts (its name included), the parser of the words after its name,
-- and whether parsing allocates a list.
pub record Form : Type 0 where
  pub words : ℕ → Bool
  pub says : List Word → Result Command Fault
  pub lists : List Word → Bool

-- a command without a list, and one that always has a list
abbrev pub form : (ℕ → Bool) → (List Word → Result Command Fault) → Form
form words says = record { words = words; says = says; lists = λ own. false }

abbrev pub list_form : (ℕ → Bool) → (List Word → Result Command Fault) → Form
list_form words says = record { words = words; says = says; lists = λ own. true }

-- a command that has a list only if one of its options does; `others` is the number of words before its options
abbrev pub option_form : (names_one : List Word → Bool) → (others : ℕ) → (ℕ → Bool) → (List Word → Result Command Fault) → Form
option_form names_one others words says = record { words = words; says = says; lists = λ own. names_one (drop others own) }

-- the name, then a multiple of three words
abbrev pub by_threes : ℕ → Bool
by_threes n = nat_le 4 n && (n % 3 == 1)

-- all commands by name
unfoldable pub commands : Table Form
commands =
    (codes "TS.CREATE", option_form has_labels 1 (nat_le 2) create)
    ∷ (codes "TS.ALTER", option_form has_labels 1 (nat_le 2) alter)
    ∷ (codes "TS.ADD", option_form has_labels 3 (nat_le 4) add)
    ∷ (codes "TS.MADD", list_form by_threes madd)
    ∷ (codes "TS.INCRBY", option_form has_labels 2 (nat_le 3) (incr (λ v. v)))
    ∷ (codes "TS.DECRBY", option_form has_labels 2 (nat_le 3) (incr neg_ℤ))
    ∷ (codes "TS.DEL", form (λ n. n == 4) del_range)
    ∷ (codes "TS.CREATERULE", form (λ n. nat_le 6 n && nat_le n 7) create_rule)
    ∷ (codes "TS.DELETERULE", form (λ n. n == 3) delete_rule)
    ∷ (codes "TS.RANGE", option_form has_list 3 (nat_le 4) (range false))
    ∷ (codes "TS.REVRANGE", option_form has_list 3 (nat_le 4) (range true))
    ∷ (codes "TS.MRANGE", list_form (nat_le 5) (many_ranges false))
    ∷ (codes "TS.MREVRANGE", list_form (nat_le 5) (many_ranges true))
    ∷ (codes "TS.GET", form (λ n. nat_le 2 n && nat_le n 3) get_last)
    ∷ (codes "TS.MGET", list_form (nat_le 3) last_of_many)
    ∷ (codes "TS.QUERYINDEX", list_form (nat_le 2) query_index)
    ∷ (codes "TS.INFO", form (λ n. n == 2) info)
    ∷ (codes "PING", form (λ n. nat_le 1 n && nat_le n 2) ping)
    ∷ (codes "ECHO", form (λ n. n == 2) echo)
    ∷ (codes "QUIT", form (nat_le 1) (λ words. Ok Quit))
    ∷ (codes "DEL", form (nat_le 2) (λ keys. Ok (Drop keys)))
    ∷ (codes "EXISTS", form (nat_le 2) (λ keys. Ok (Exists keys)))
    ∷ []

-- parses the words of a form; `n` is the word count, with the name
abbrev pub by_form : Option Form → ℕ → List Word → Result Command Fault
by_form None n words = Err UnknownCommand
by_form (Some f) n words = if f.words n then f.says words else Err Arity

-- Parses a request. The first fault in its words is the result.
abbrev pub command : Request → Result Command Fault
command [] = Err UnknownCommand
command (name ∷ words) = by_form (named commands name) (suc (length words)) words

-- whether parsing the words of a form allocates a list
abbrev pub lists_by_form : Option Form → ℕ → List Word → Bool
lists_by_form None n words = false
lists_by_form (Some f) n words = f.words n && f.lists words

-- Whether parsing a request can run out of memory: it can if the command with this name and word count has a list.
abbrev pub makes_list : Request → Bool
makes_list [] = false
makes_list (name ∷ words) = lists_by_form (named commands name) (suc (length words)) words

-- ---- the clock

-- whether a time is `*`, the time of the clock
abbrev pub is_clock : At → Bool
is_clock Clock = true
is_clock (Time t) = false

-- whether the time of a triple is `*`; a bad time is not
abbrev pub is_clock_at : Result At Fault → Bool
is_clock_at (Ok at) = is_clock at
is_clock_at (Err fault) = false

-- whether one of the triples has the time of the clock
abbrev pub any_clock : List Triple → Bool
any_clock [] = false
any_clock (t ∷ ts) = if is_clock_at t.at then true else any_clock ts

-- Whether a command needs a reading of the clock.
abbrev pub needs_clock : Command → Bool
needs_clock (Add key at value on spec) = is_clock at
needs_clock (Madd triples) = any_clock triples
needs_clock (Incr key change at spec) = is_clock at
needs_clock _ = false
