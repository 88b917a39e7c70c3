-- Worked examples of journals, and what they load to.
use Rattle.std.specs.Prelude.{◌≡◌, refl, pos, List, ℕ, [], ◌∷◌, ◌++◌, take, codes, Some, None}
use Rattle.std.specs.Fmt.{digits}
use Rattle.ts_spec.specs.declared.command.At.TheVariants.{Clock}
use Rattle.ts_spec.specs.Command.{Add}
use Rattle.ts_spec.specs.Grammar.{commands}
use Rattle.ts_spec.specs.Keyed.{with_key}
use Rattle.ts_spec.specs.Limits.{usual}
use Rattle.ts_spec.specs.Making.{fresh}
use Rattle.ts_spec.specs.Names.{policies, encodings}
use Rattle.ts_spec.specs.Replies.{number}
use Rattle.ts_spec.specs.SeriesOptions.{spec, series_options, add_options, retention_word, encoding_word, chunk_size_word, policy_word, ignore_time_word, ignore_value_word}
use Rattle.ts_spec.specs.Settings.{nothing, at_word, value_word, time_word}
use Rattle.ts_spec.specs.State.{State, empty}
use Rattle.ts_spec.specs.Value.{value, decimal, clamp, div_round, shown_value, shown_whole}
use Rattle.ts_spec.specs.Wire.{read_on}
use Rattle.ts_journal.specs.Loading.{Loads, BreaksAt, load, LoadsTo}
use Rattle.ts_journal.specs.Record.{record_of}

-- the record of `TS.ADD a * 1` at 1000
abbrev journal : List ℕ
journal = record_of (Add (codes "a") Clock (pos 1000000) None (spec nothing)) 1000 (number 1000)

-- its sample, in a new series
abbrev its_state : State
its_state = with_key (codes "a") (fresh (spec nothing) (record { time = 1000; value = pos 1000000; made = 0 } ∷ []) (Some 1000)) empty

no_records : LoadsTo usual [] empty
unfolding read_on
no_records = refl

one_record : LoadsTo usual journal its_state
unfolding digits shown_value shown_whole read_on commands at_word time_word value_word value decimal clamp div_round add_options series_options retention_word encoding_word encodings chunk_size_word policy_word policies ignore_time_word ignore_value_word
one_record = refl

-- without its last byte
all_but_one : load usual (take 192 journal) ≡ Loads empty 0
unfolding digits shown_value shown_whole read_on
all_but_one = refl

-- half a record after it
and_a_half : load usual (journal ++ take 60 journal) ≡ Loads its_state 193
unfolding digits shown_value shown_whole read_on commands at_word time_word value_word value decimal clamp div_round add_options series_options retention_word encoding_word encodings chunk_size_word policy_word policies ignore_time_word ignore_value_word
and_a_half = refl

-- refused the second time, since there is a sample at its time
twice : load usual (journal ++ journal) ≡ BreaksAt 193
unfolding digits shown_value shown_whole read_on commands at_word time_word value_word value decimal clamp div_round add_options series_options retention_word encoding_word encodings chunk_size_word policy_word policies ignore_time_word ignore_value_word
twice = refl

-- what is no change, and what asks for the time
a_question : load usual (codes "*1\r\n$4\r\nPING\r\n") ≡ BreaksAt 0
unfolding read_on commands
a_question = refl

no_time : load usual (codes "TS.ADD a * 1\r\n") ≡ BreaksAt 0
unfolding read_on commands at_word time_word value_word value decimal clamp div_round add_options
no_time = refl

-- a byte that no request goes on with
a_fault : load usual (codes "TS.CREATE a\r\n*1\r\n+") ≡ BreaksAt 17
unfolding read_on commands series_options
a_fault = refl

-- a rest that no record starts with: a file that is no journal, and notes behind a request
a_note : load usual (codes "my secret") ≡ BreaksAt 0
unfolding read_on
a_note = refl

notes_behind : load usual (codes "TS.CREATE a\nmy notes") ≡ BreaksAt 12
unfolding read_on commands series_options
notes_behind = refl
