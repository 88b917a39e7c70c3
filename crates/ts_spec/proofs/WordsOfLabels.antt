-- Worked examples: parsing labels and queries over many series.
use Rattle.std.specs.Prelude.{◌≡◌, refl, [], ◌∷◌, codes, true, false, None, Some, Ok, Err}
use Rattle.ts_spec.specs.declared.series.Encoding.TheVariants.{Compressed}
use Rattle.ts_spec.specs.declared.series.Policy.TheVariants.{Block}
use Rattle.ts_spec.specs.Command.{Create, MRange, MGet, QueryIndex, All, Selected}
use Rattle.ts_spec.specs.Filter.{OneOf, NoneOf, Absent}
use Rattle.ts_spec.specs.FilterText.{filter_of}
use Rattle.ts_spec.specs.Grammar.{commands, command}
use Rattle.ts_spec.specs.ManySeries.{filter_word, shown_options, last_options, many_options}
use Rattle.ts_spec.specs.Ranges.{range_options, count_word}
use Rattle.ts_spec.specs.Refusal.{BadOption, RepeatedOption, BadLabels, BadFilter, NoPositiveFilter}
use Rattle.ts_spec.specs.SeriesOptions.{series_options, alter_options, retention_word}
use Rattle.ts_spec.specs.Settings.{end_word, time_word}
use Rattle.ts_spec.proofs.Examples.{equal, question}

pub a_repeated_label : command (codes "TS.CREATE" ∷ codes "k" ∷ codes "LABELS" ∷ codes "a" ∷ codes "1" ∷ codes "b" ∷ codes "2" ∷ codes "a" ∷ codes "3" ∷ [])
    ≡ Ok (Create (codes "k") (record {
      options = record { retention = 0; encoding = Compressed; chunk_size = 4096; policy = Block; ignore = equal };
      labels = record { name = codes "a"; value = codes "3" } ∷ record { name = codes "b"; value = codes "2" } ∷ [];
    }))
unfolding commands series_options
a_repeated_label = refl

pub an_option_for_a_value : command (codes "TS.CREATE" ∷ codes "k" ∷ codes "LABELS" ∷ codes "a" ∷ codes "RETENTION" ∷ codes "RETENTION" ∷ codes "5" ∷ [])
    ≡ Ok (Create (codes "k") (record {
      options = record { retention = 5; encoding = Compressed; chunk_size = 4096; policy = Block; ignore = equal };
      labels = record { name = codes "a"; value = codes "RETENTION" } ∷ [];
    }))
unfolding commands series_options retention_word
an_option_for_a_value = refl

pub a_label_alone : command (codes "TS.ALTER" ∷ codes "k" ∷ codes "LABELS" ∷ codes "a" ∷ []) ≡ Err BadLabels
unfolding commands alter_options
a_label_alone = refl

pub an_empty_value : command (codes "TS.ALTER" ∷ codes "k" ∷ codes "LABELS" ∷ codes "a" ∷ [] ∷ []) ≡ Err BadLabels
unfolding commands alter_options
an_empty_value = refl

pub ranges : command (codes "TS.MREVRANGE" ∷ codes "-" ∷ codes "9" ∷ codes "FILTER" ∷ codes "a=x" ∷ codes "b!=y" ∷ codes "SELECTED_LABELS" ∷ codes "a" ∷ codes "zone" ∷ codes "COUNT" ∷ codes "3" ∷ [])
    ≡ Ok (MRange false (Selected (codes "a" ∷ codes "zone" ∷ [])) (OneOf (codes "a") (codes "x" ∷ []) ∷ NoneOf (codes "b") (codes "y" ∷ []) ∷ [])
    (record (question 0 9 None) { count = Some 3; reverse = true }) None)
unfolding commands end_word time_word many_options shown_options range_options filter_word filter_of count_word
ranges = refl

pub the_last_ones : command (codes "ts.mget" ∷ codes "WITHLABELS" ∷ codes "FILTER" ∷ codes "a=x" ∷ []) ≡ Ok (MGet false All (OneOf (codes "a") (codes "x" ∷ []) ∷ []))
unfolding commands last_options shown_options filter_word filter_of
the_last_ones = refl

pub no_filter : command (codes "TS.MGET" ∷ codes "WITHLABELS" ∷ codes "SELECTED_LABELS" ∷ []) ≡ Err RepeatedOption
unfolding commands last_options shown_options
no_filter = refl

pub filters_are_needed : command (codes "TS.MRANGE" ∷ codes "-" ∷ codes "+" ∷ codes "COUNT" ∷ codes "3" ∷ []) ≡ Err BadOption
unfolding commands end_word many_options shown_options range_options count_word
filters_are_needed = refl

pub none_is_positive : command (codes "TS.QUERYINDEX" ∷ codes "a!=x" ∷ codes "b=" ∷ []) ≡ Err NoPositiveFilter
unfolding commands filter_word filter_of
none_is_positive = refl

pub keys : command (codes "TS.QUERYINDEX" ∷ codes "a=(x,z)" ∷ codes "b=" ∷ []) ≡ Ok (QueryIndex (OneOf (codes "a") (codes "x" ∷ codes "z" ∷ []) ∷ Absent (codes "b") ∷ []))
unfolding commands filter_word filter_of
keys = refl

pub no_sign : command (codes "TS.QUERYINDEX" ∷ codes "a" ∷ []) ≡ Err BadFilter
unfolding commands filter_word filter_of
no_sign = refl
