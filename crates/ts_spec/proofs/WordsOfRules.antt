-- Worked examples: parsing rules and LATEST.
use Rattle.std.specs.Prelude.{◌≡◌, refl, true, [], ◌∷◌, codes, Ok, Err}
use Rattle.ts_spec.specs.declared.bucket.Aggregator.TheVariants.{Avg, Max}
use Rattle.ts_spec.specs.Command.{CreateRule, DeleteRule, Get, MGet, InfoOf, Nothing}
use Rattle.ts_spec.specs.Filter.{OneOf}
use Rattle.ts_spec.specs.FilterText.{filter_of}
use Rattle.ts_spec.specs.Grammar.{commands, command}
use Rattle.ts_spec.specs.ManySeries.{filter_word, shown_options, last_options}
use Rattle.ts_spec.specs.Names.{aggregators}
use Rattle.ts_spec.specs.Ranges.{aggregator_word, duration_word, range_options}
use Rattle.ts_spec.specs.Refusal.{Arity, BadOption, BadTimestamp, BadDuration, UnknownAggregator, AggregatorNotInProfile, RepeatedOption}
use Rattle.ts_spec.specs.Settings.{end_word, time_word}

pub a_rule : command (codes "TS.CREATERULE" ∷ codes "s" ∷ codes "d" ∷ codes "aggregation" ∷ codes "avg" ∷ codes "60" ∷ [])
    ≡ Ok (CreateRule (codes "s") (codes "d") Avg (record { align = 0; duration = 60 }))
unfolding commands aggregator_word aggregators duration_word
a_rule = refl

pub an_aligned_rule : command (codes "TS.CREATERULE" ∷ codes "s" ∷ codes "d" ∷ codes "AGGREGATION" ∷ codes "MAX" ∷ codes "10" ∷ codes "5" ∷ [])
    ≡ Ok (CreateRule (codes "s") (codes "d") Max (record { align = 5; duration = 10 }))
unfolding commands aggregator_word aggregators duration_word time_word
an_aligned_rule = refl

pub another_word_than_aggregation : command (codes "TS.CREATERULE" ∷ codes "s" ∷ codes "d" ∷ codes "ALIGN" ∷ codes "no" ∷ codes "0" ∷ []) ≡ Err BadOption
unfolding commands
another_word_than_aggregation = refl

pub the_first_fault_is_told : command (codes "TS.CREATERULE" ∷ codes "s" ∷ codes "d" ∷ codes "AGGREGATION" ∷ codes "no" ∷ codes "0" ∷ codes "-" ∷ []) ≡ Err UnknownAggregator
unfolding commands aggregator_word aggregators
the_first_fault_is_told = refl

pub an_aggregator_left_out : command (codes "TS.CREATERULE" ∷ codes "s" ∷ codes "d" ∷ codes "AGGREGATION" ∷ codes "std.p" ∷ codes "0" ∷ []) ≡ Err AggregatorNotInProfile
unfolding commands aggregator_word aggregators
an_aggregator_left_out = refl

pub no_duration : command (codes "TS.CREATERULE" ∷ codes "s" ∷ codes "d" ∷ codes "AGGREGATION" ∷ codes "avg" ∷ codes "0" ∷ codes "-" ∷ []) ≡ Err BadDuration
unfolding commands aggregator_word aggregators duration_word
no_duration = refl

pub no_alignment : command (codes "TS.CREATERULE" ∷ codes "s" ∷ codes "d" ∷ codes "AGGREGATION" ∷ codes "avg" ∷ codes "1" ∷ codes "-" ∷ []) ≡ Err BadTimestamp
unfolding commands aggregator_word aggregators duration_word time_word
no_alignment = refl

pub too_many_words : command (codes "TS.DELETERULE" ∷ codes "s" ∷ codes "d" ∷ codes "e" ∷ []) ≡ Err Arity
unfolding commands
too_many_words = refl

pub the_end_of_a_rule : command (codes "TS.DELETERULE" ∷ codes "s" ∷ codes "d" ∷ []) ≡ Ok (DeleteRule (codes "s") (codes "d"))
unfolding commands
the_end_of_a_rule = refl

pub how_a_series_is_kept : command (codes "ts.info" ∷ codes "s" ∷ []) ≡ Ok (InfoOf (codes "s"))
unfolding commands
how_a_series_is_kept = refl

pub the_open_bucket_too : command (codes "TS.GET" ∷ codes "d" ∷ codes "latest" ∷ []) ≡ Ok (Get (codes "d") true)
unfolding commands
the_open_bucket_too = refl

pub open_buckets_of_many : command (codes "TS.MGET" ∷ codes "LATEST" ∷ codes "FILTER" ∷ codes "a=x" ∷ []) ≡ Ok (MGet true Nothing (OneOf (codes "a") (codes "x" ∷ []) ∷ []))
unfolding commands last_options shown_options filter_word filter_of
open_buckets_of_many = refl

pub asked_twice : command (codes "TS.RANGE" ∷ codes "d" ∷ codes "-" ∷ codes "+" ∷ codes "LATEST" ∷ codes "LATEST" ∷ []) ≡ Err RepeatedOption
unfolding commands end_word range_options
asked_twice = refl
