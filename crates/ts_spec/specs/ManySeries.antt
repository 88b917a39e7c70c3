-- The options of queries over many series: the filters, the labels to return, and the grouping.
use Rattle.std.specs.Prelude.{Bool, if◌then◌else◌, List, [], ◌∷◌, ◌++◌, codes, Some, is_some, ok_or, unwrap_or, Result, Ok, Err}
use Rattle.std.specs.Str.{str_eq_ignore_ascii_case}
use Rattle.ts_spec.specs.declared.bucket.Reducer.{Reducer}
use Rattle.ts_spec.specs.Names.{Table, named, reducers, named_or}
use Rattle.ts_spec.specs.Filter.{Filter, has_positive}
use Rattle.ts_spec.specs.FilterText.{FilterFault, filter_of}
use Rattle.ts_spec.specs.Command.{Show, Nothing, All, Selected}
use Rattle.ts_spec.specs.Refusal.{Fault, BadOption, BadLabels, BadFilter, NoPositiveFilter, UnknownAggregator, AggregatorNotInProfile}
use Rattle.ts_spec.specs.Settings.{Word, and_then, Given, Setting, no_words, three_words, some_words}
use Rattle.ts_spec.specs.SeriesOptions.{is_empty}
use Rattle.ts_spec.specs.Ranges.{latest, range_options}

-- ---- words

-- the filter, or the BadFilter fault of the command
abbrev pub or_bad_filter : Result Filter FilterFault → Result Filter Fault
or_bad_filter (Ok filter) = Ok filter
or_bad_filter (Err fault) = Err BadFilter

-- parses a filter
unfoldable pub filter_word : Word → Result Filter Fault
filter_word word = or_bad_filter (filter_of word)

-- parses filters, one word each
abbrev pub filters_of : List Word → Result (List Filter) Fault
filters_of [] = Ok []
filters_of (word ∷ words) = and_then (filter_word word) (λ f. and_then (filters_of words) (λ fs. Ok (f ∷ fs)))

-- parses label names, which must not be empty
abbrev pub names_of : List Word → Result (List Word) Fault
names_of [] = Ok []
names_of (word ∷ words) = if is_empty word then Err BadLabels else and_then (names_of words) (λ names. Ok (word ∷ names))

-- parses a label to group by
unfoldable pub label_word : Word → Result Word Fault
label_word word = if is_empty word then Err BadLabels else Ok word

-- whether a word is this option name, in any case
abbrev pub is_reduce : Word → Bool
is_reduce word = str_eq_ignore_ascii_case (codes "REDUCE") word

-- parses the name of a reducer
unfoldable pub reducer_word : Word → Result Reducer Fault
reducer_word word = named_or UnknownAggregator AggregatorNotInProfile (named reducers word)

-- ---- options

-- WITHLABELS returns all labels, SELECTED_LABELS those of a list. Only one of the two may be given, once.
abbrev pub with_labels : Setting
with_labels = no_words (λ given. is_some given.show) (λ given. record given { show = Some All })

abbrev pub selected_labels : Setting
selected_labels = some_words (λ given. is_some given.show) (λ words given. and_then (names_of words) (λ names. Ok (record given { show = Some (Selected names) })))

-- FILTER: the filters that a series must pass
abbrev pub filter : Setting
filter = some_words (λ given. is_some given.filters) (λ words given. and_then (filters_of words) (λ fs. Ok (record given { filters = Some fs })))

-- GROUPBY: `label REDUCE reducer`
abbrev pub group_by : Setting
group_by = three_words (λ given. is_some given.group) (λ name reduce told given.
    and_then (label_word name) (λ label.
    if is_reduce reduce then and_then (reducer_word told) (λ reducer. Ok (record given { group = Some (record { label = label; reducer = reducer }) }))
    else Err BadOption))

-- the options for filters and labels
unfoldable pub shown_options : Table Setting
shown_options =
    (codes "WITHLABELS", with_labels)
    ∷ (codes "SELECTED_LABELS", selected_labels)
    ∷ (codes "FILTER", filter)
    ∷ []

-- the options of TS.MGET
unfoldable pub last_options : Table Setting
last_options = (codes "LATEST", latest) ∷ shown_options

-- the options of TS.MRANGE and TS.MREVRANGE
unfoldable pub many_options : Table Setting
many_options = (codes "GROUPBY", group_by) ∷ shown_options ++ range_options

-- ---- the query

-- the filters; FILTER is required
abbrev pub wanted : Given → Result (List Filter) Fault
wanted given = ok_or given.filters BadOption

-- the filters; at least one of them must require a value
abbrev pub selecting : List Filter → Result (List Filter) Fault
selecting filters = if has_positive filters then Ok filters else Err NoPositiveFilter

-- the labels to return: none by default
abbrev pub labels_asked : Given → Show
labels_asked given = unwrap_or given.show Nothing
