-- Worked examples: parsing GROUPBY.
use Rattle.std.specs.Prelude.{◌≡◌, refl, List, [], ◌∷◌, ◌++◌, codes, false, None, Some, Result, Ok, Err}
use Rattle.ts_spec.specs.declared.bucket.Reducer.{Reducer}
use Rattle.ts_spec.specs.declared.bucket.Reducer.TheVariants.{Max, Count}
use Rattle.ts_spec.specs.Command.{Command, MRange, Show, Nothing, Selected}
use Rattle.ts_spec.specs.Filter.{OneOf}
use Rattle.ts_spec.specs.FilterText.{filter_of}
use Rattle.ts_spec.specs.Grammar.{commands, command}
use Rattle.ts_spec.specs.ManySeries.{filter_word, label_word, reducer_word, shown_options, many_options}
use Rattle.ts_spec.specs.Names.{reducers}
use Rattle.ts_spec.specs.Ranges.{range_options}
use Rattle.ts_spec.specs.Refusal.{Fault, BadOption, BadLabels, BadFilter, RepeatedOption, UnknownAggregator, AggregatorNotInProfile}
use Rattle.ts_spec.specs.Sample.{MAX_TIME}
use Rattle.ts_spec.specs.Settings.{Word, end_word}
use Rattle.ts_spec.proofs.Examples.{question}

-- TS.MRANGE - + and options
abbrev asked : List Word → Result Command Fault
asked words = command (codes "TS.MRANGE" ∷ codes "-" ∷ codes "+" ∷ words)

abbrev grouped : Show → (label : Word) → Reducer → Command
grouped show label reducer = MRange false show (OneOf (codes "a") (codes "x" ∷ []) ∷ []) (question 0 MAX_TIME None) (Some (record { label = label; reducer = reducer }))

abbrev filtered : List Word
filtered = codes "FILTER" ∷ codes "a=x" ∷ []

pub groups_of_a_label : asked (filtered ++ codes "groupby" ∷ codes "Area" ∷ codes "reduce" ∷ codes "MAX" ∷ []) ≡ Ok (grouped Nothing (codes "Area") Max)
unfolding commands end_word many_options shown_options range_options filter_word filter_of label_word reducer_word reducers
groups_of_a_label = refl

pub before_the_other_options : asked (codes "GROUPBY" ∷ codes "area" ∷ codes "REDUCE" ∷ codes "count" ∷ codes "SELECTED_LABELS" ∷ codes "b" ∷ codes "REDUCE" ∷ filtered)
    ≡ Ok (grouped (Selected (codes "b" ∷ codes "REDUCE" ∷ [])) (codes "area") Count)
unfolding commands end_word many_options shown_options range_options filter_word filter_of label_word reducer_word reducers
before_the_other_options = refl

pub no_label : asked (codes "GROUPBY" ∷ [] ∷ codes "no" ∷ codes "no" ∷ filtered) ≡ Err BadLabels
unfolding commands end_word many_options shown_options range_options label_word
no_label = refl

pub another_word_than_reduce : asked (codes "GROUPBY" ∷ codes "area" ∷ codes "REDUCER" ∷ codes "no" ∷ filtered) ≡ Err BadOption
unfolding commands end_word many_options shown_options range_options label_word
another_word_than_reduce = refl

pub a_first_one_is_no_reducer : asked (codes "GROUPBY" ∷ codes "area" ∷ codes "REDUCE" ∷ codes "first" ∷ filtered) ≡ Err UnknownAggregator
unfolding commands end_word many_options shown_options range_options label_word reducer_word reducers
a_first_one_is_no_reducer = refl

pub a_reducer_left_out : asked (codes "GROUPBY" ∷ codes "area" ∷ codes "REDUCE" ∷ codes "Var.S" ∷ filtered) ≡ Err AggregatorNotInProfile
unfolding commands end_word many_options shown_options range_options label_word reducer_word reducers
a_reducer_left_out = refl

pub grouped_twice : asked (codes "GROUPBY" ∷ codes "a" ∷ codes "REDUCE" ∷ codes "max" ∷ codes "GROUPBY" ∷ []) ≡ Err RepeatedOption
unfolding commands end_word many_options shown_options range_options label_word reducer_word reducers
grouped_twice = refl

pub too_few_words : asked (filtered ++ codes "GROUPBY" ∷ [] ∷ codes "REDUCE" ∷ []) ≡ Err BadOption
unfolding commands end_word many_options shown_options range_options filter_word filter_of
too_few_words = refl

-- REDUCE is not an option, so it is one more word of a list
pub reduce_in_a_list : asked (filtered ++ codes "REDUCE" ∷ []) ≡ Err BadFilter
unfolding commands end_word many_options shown_options range_options filter_word filter_of
reduce_in_a_list = refl
