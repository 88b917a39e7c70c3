-- Worked examples of checkpoints, and what they load to.
use Rattle.std.specs.Prelude.{◌≡◌, ℕ, List, [], ◌∷◌, ◌++◌, length, take, map, pos, codes, Some, None, refl}
use Rattle.std.specs.Fmt.{digits}
use Rattle.ts_spec.specs.declared.bucket.Aggregator.TheVariants.{Sum}
use Rattle.ts_spec.specs.Encoded.{encoded}
use Rattle.ts_spec.specs.Grammar.{commands}
use Rattle.ts_spec.specs.Keyed.{with_key}
use Rattle.ts_spec.specs.Limits.{usual}
use Rattle.ts_spec.specs.Making.{fresh}
use Rattle.ts_spec.specs.Names.{policies, encodings, aggregators}
use Rattle.ts_spec.specs.Ranges.{aggregator_word, duration_word}
use Rattle.ts_spec.specs.SeriesOptions.{spec, series_options, retention_word, encoding_word, chunk_size_word, policy_word, ignore_time_word, ignore_value_word}
use Rattle.ts_spec.specs.Settings.{nothing, at_word, value_word, time_word}
use Rattle.ts_spec.specs.State.{State, empty}
use Rattle.ts_spec.specs.Value.{value, decimal, clamp, div_round, shown_value, shown_whole}
use Rattle.ts_spec.specs.Wire.{read_on}
use Rattle.ts_chunk_packed.specs.Packed.{zigzag, unzigzag, number, coded, point_of, sample_of}
use Rattle.ts_journal.specs.Loading.{Loads, BreaksAt}
use Rattle.ts_restore.specs.Checkpoint.{RulePart}
use Rattle.ts_restore.specs.Restored.{with_series, with_restored_rule}
use Rattle.ts_checkpoint.specs.Checks.{is_new_series, is_new_rule, can_follow}
use Rattle.ts_checkpoint.specs.Loading.{load, LoadsTo}
use Rattle.ts_checkpoint.specs.Numbers.{whole, number_in, time_or_none, integer, value_in}
use Rattle.ts_checkpoint.specs.Parts.{Part, Head, Series, Rule}
use Rattle.ts_checkpoint.specs.PartOf.{head_part, series_part, piece_part, summary_in, rule_numbers, rule_part, unchecked_part, part_of}
use Rattle.ts_checkpoint.specs.PartWords.{part_words}
use Rattle.ts_checkpoint.specs.Restoring.{ChunkedSeries, shown_series, chunk_part, head_of, series_parts}
use Rattle.ts_checkpoint.specs.Unpacked.{unpacked}

-- a series with one sample
abbrev series_a : ChunkedSeries
series_a = record {
  key = codes "a";
  spec = spec nothing;
  high = Some 1000;
  born = 0;
  chunks = record { limit = 4096; list = record { time = 1000; value = pos 1000000; made = 0 } ∷ [] } ∷ [];
}

-- the requests of these parts
abbrev written : List Part → List ℕ
written parts = encoded (map part_words parts)

abbrev checkpoint : List ℕ
checkpoint = written (Head 2 ∷ series_parts series_a)

abbrev restored_state : State
restored_state = with_series (shown_series series_a) empty

restored : LoadsTo usual checkpoint restored_state
unfolding digits shown_value shown_whole zigzag unzigzag number coded point_of sample_of read_on part_of unchecked_part head_part series_part piece_part whole number_in time_or_none commands series_options retention_word encoding_word encodings chunk_size_word policy_word policies ignore_time_word ignore_value_word time_word value_word value decimal clamp div_round unpacked can_follow is_new_series
restored = refl

-- a change behind it
with_change : LoadsTo usual (checkpoint ++ codes "TS.CREATE b\n") (with_key (codes "b") (fresh (spec nothing) [] None) restored_state)
unfolding digits shown_value shown_whole zigzag unzigzag number coded point_of sample_of read_on part_of unchecked_part head_part series_part piece_part whole number_in time_or_none commands series_options retention_word encoding_word encodings chunk_size_word policy_word policies ignore_time_word ignore_value_word time_word value_word value decimal clamp div_round unpacked can_follow is_new_series
with_change = refl

-- only the head, and a part of what follows
cut : load usual (take 100 checkpoint) ≡ BreaksAt (length (written (Head 2 ∷ [])))
unfolding digits read_on part_of unchecked_part head_part whole number_in commands shown_value shown_whole
cut = refl

-- a part of the head alone is the start of a record
torn : load usual (take 20 checkpoint) ≡ Loads empty 0
unfolding digits read_on
torn = refl

-- a head that says too few records: the series waits for its chunk
too_few : load usual (written (Head 1 ∷ series_parts series_a)) ≡ BreaksAt (length (written (Head 1 ∷ Series (head_of series_a) ∷ [])))
unfolding digits shown_value shown_whole zigzag unzigzag number coded point_of sample_of read_on part_of unchecked_part head_part series_part piece_part whole number_in time_or_none commands series_options retention_word encoding_word encodings chunk_size_word policy_word policies ignore_time_word ignore_value_word time_word value_word value decimal clamp div_round unpacked can_follow is_new_series
too_few = refl

-- the same key again
twice : load usual (written (Head 4 ∷ (series_parts series_a ++ series_parts series_a))) ≡ BreaksAt (length (written (Head 4 ∷ (series_parts series_a ++ Series (head_of series_a) ∷ []))))
unfolding digits shown_value shown_whole zigzag unzigzag number coded point_of sample_of read_on part_of unchecked_part head_part series_part piece_part whole number_in time_or_none commands series_options retention_word encoding_word encodings chunk_size_word policy_word policies ignore_time_word ignore_value_word time_word value_word value decimal clamp div_round unpacked can_follow is_new_series
twice = refl

-- samples without a series
astray : load usual (written (Head 1 ∷ map chunk_part series_a.chunks)) ≡ BreaksAt (length (written (Head 1 ∷ [])))
unfolding digits read_on part_of unchecked_part head_part whole number_in commands zigzag number coded piece_part
astray = refl

-- an empty checkpoint, and a second head
second : load usual (written (Head 0 ∷ Head 0 ∷ [])) ≡ BreaksAt (length (written (Head 0 ∷ [])))
unfolding digits read_on part_of unchecked_part head_part whole number_in commands
second = refl

-- a rule with an open bucket, in which it counts the sample of its source
abbrev source : ChunkedSeries
source = record series_a { born = 1; chunks = record { limit = 4096; list = record { time = 1000; value = pos 1000000; made = 1 } ∷ [] } ∷ [] }

abbrev dest : ChunkedSeries
dest = record { key = codes "b"; spec = spec nothing; high = None; born = 0; chunks = [] }

abbrev rule_counting : (count : ℕ) → RulePart
rule_counting count = record {
  source = codes "a";
  rule = record {
    dest = codes "b";
    agg = Sum;
    grid = record { duration = 100; align = 0 };
    made = 1;
    current = Some 1000;
    running = record { count = count; sum = pos 1000000; least = pos 1000000; greatest = pos 1000000; first = pos 1000000; last = pos 1000000 };
  };
}

abbrev two_series : List Part
two_series = series_parts source ++ series_parts dest

with_rule : LoadsTo usual (written (Head 4 ∷ (two_series ++ Rule (rule_counting 1) ∷ [])))
    (with_restored_rule (rule_counting 1) (with_series (shown_series dest) (with_series (shown_series source) empty)))
unfolding digits shown_value shown_whole zigzag unzigzag number coded point_of sample_of read_on part_of unchecked_part head_part series_part piece_part whole number_in time_or_none commands series_options retention_word encoding_word encodings chunk_size_word policy_word policies ignore_time_word ignore_value_word time_word value_word value decimal clamp div_round unpacked can_follow is_new_series is_new_rule rule_part rule_numbers summary_in integer value_in aggregator_word aggregators duration_word
with_rule = refl

-- numbers that are no summary of samples
no_summary : load usual (written (Head 4 ∷ (two_series ++ Rule (rule_counting 2) ∷ []))) ≡ BreaksAt (length (written (Head 4 ∷ two_series)))
unfolding digits shown_value shown_whole zigzag unzigzag number coded point_of sample_of read_on part_of unchecked_part head_part series_part piece_part whole number_in time_or_none commands series_options retention_word encoding_word encodings chunk_size_word policy_word policies ignore_time_word ignore_value_word time_word value_word value decimal clamp div_round unpacked can_follow is_new_series is_new_rule rule_part rule_numbers summary_in integer value_in aggregator_word aggregators duration_word
no_summary = refl
