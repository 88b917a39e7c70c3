-- Worked examples: parsing queries with buckets.
use Rattle.std.specs.Prelude.{◌≡◌, refl, List, [], ◌∷◌, codes, true, false, Result, Ok, Err}
use Rattle.ts_spec.specs.declared.bucket.Aggregator.TheVariants as aggregator
use Rattle.ts_spec.specs.declared.bucket.Stamp.TheVariants as stamp
use Rattle.ts_spec.specs.Sample.{MAX_TIME}
use Rattle.ts_spec.specs.Names.{aggregators, aligns, stamps}
use Rattle.ts_spec.specs.Command.{Query}
use Rattle.ts_spec.specs.Refusal.{Fault, BadOption, RepeatedOption, UnknownAggregator, AggregatorNotInProfile, BadDuration}
use Rattle.ts_spec.specs.Settings.{Word, and_then, nothing, options, end_word, time_word}
use Rattle.ts_spec.specs.Ranges.{range_options, query, aggregator_word, duration_word, align_word, stamp_word}
use Rattle.ts_spec.proofs.Examples.{question, tens}

-- the query of two ends and the options after them
abbrev asked : (from to : Word) → List Word → Result Query Fault
asked from to words =
    and_then (end_word from) (λ first. and_then (end_word to) (λ last.
    and_then (options range_options nothing 0 words) (λ given. query false from to first last given)))

pub aligned_to_a_time : asked (codes "-") (codes "+") (codes "ALIGN" ∷ codes "5" ∷ codes "AGGREGATION" ∷ codes "sum" ∷ codes "10" ∷ [])
    ≡ Ok (question 0 MAX_TIME (tens 5 aggregator.Sum stamp.Low false))
unfolding range_options end_word time_word align_word aligns aggregator_word aggregators duration_word
aligned_to_a_time = refl

pub aligned_to_the_first_time : asked (codes "3") (codes "20") (codes "align" ∷ codes "START" ∷ codes "AGGREGATION" ∷ codes "Count" ∷ codes "10" ∷ codes "BUCKETTIMESTAMP" ∷ codes "mid" ∷ [])
    ≡ Ok (question 3 20 (tens 3 aggregator.Count stamp.Mid false))
unfolding range_options end_word time_word align_word aligns aggregator_word aggregators duration_word stamp_word stamps
aligned_to_the_first_time = refl

pub empty_ones_too : asked (codes "-") (codes "+") (codes "EMPTY" ∷ codes "AGGREGATION" ∷ codes "last" ∷ codes "10" ∷ [])
    ≡ Ok (question 0 MAX_TIME (tens 0 aggregator.Last stamp.Low true))
unfolding range_options end_word aggregator_word aggregators duration_word
empty_ones_too = refl

pub no_first_time_to_align_to : asked (codes "-") (codes "20") (codes "ALIGN" ∷ codes "start" ∷ codes "AGGREGATION" ∷ codes "count" ∷ codes "10" ∷ []) ≡ Err BadOption
unfolding range_options end_word time_word align_word aligns aggregator_word aggregators duration_word
no_first_time_to_align_to = refl

pub no_last_time_to_align_to : asked (codes "0") (codes "+") (codes "ALIGN" ∷ codes "+" ∷ codes "AGGREGATION" ∷ codes "count" ∷ codes "10" ∷ []) ≡ Err BadOption
unfolding range_options end_word time_word align_word aligns aggregator_word aggregators duration_word
no_last_time_to_align_to = refl

pub empty_ones_of_no_buckets : asked (codes "-") (codes "+") (codes "EMPTY" ∷ []) ≡ Err BadOption
unfolding range_options end_word
empty_ones_of_no_buckets = refl

pub empty_ones_twice : asked (codes "-") (codes "+") (codes "EMPTY" ∷ codes "empty" ∷ []) ≡ Err RepeatedOption
unfolding range_options end_word
empty_ones_twice = refl

pub left_out : asked (codes "-") (codes "+") (codes "AGGREGATION" ∷ codes "STD.P" ∷ codes "0" ∷ []) ≡ Err AggregatorNotInProfile
unfolding range_options end_word aggregator_word aggregators
left_out = refl

pub unknown : asked (codes "-") (codes "+") (codes "AGGREGATION" ∷ codes "median" ∷ codes "10" ∷ []) ≡ Err UnknownAggregator
unfolding range_options end_word aggregator_word aggregators
unknown = refl

pub no_time_at_all : asked (codes "-") (codes "+") (codes "AGGREGATION" ∷ codes "avg" ∷ codes "0" ∷ []) ≡ Err BadDuration
unfolding range_options end_word aggregator_word aggregators duration_word
no_time_at_all = refl

pub too_few_words : asked (codes "-") (codes "+") (codes "AGGREGATION" ∷ codes "median" ∷ []) ≡ Err BadOption
unfolding range_options end_word
too_few_words = refl
