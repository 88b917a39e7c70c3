-- Options: what each means, which ones a command accepts, and which have lists.
use Rattle.std.specs.Prelude.{ℕ, Bool, true, false, List, codes, Option, None, Some}
use Rattle.std.specs.Str.{str_eq_ignore_ascii_case}
use Rattle.ts_spec.specs.Names.{Table}
use Rattle.ts_spec.specs.Settings.{Word, Setting, has_name}
use Rattle.ts_spec.specs.SeriesOptions as series
use Rattle.ts_spec.specs.SeriesOptions.{series_options, alter_options, add_options, incr_options}
use Rattle.ts_spec.specs.Ranges as ranges
use Rattle.ts_spec.specs.Ranges.{range_options}
use Rattle.ts_spec.specs.ManySeries as many
use Rattle.ts_spec.specs.ManySeries.{last_options, many_options}
use Rattle.ts_command.specs.declared.option_word.OptionWord.{OptionWord}
use Rattle.ts_command.specs.declared.option_word.OptionWord.TheVariants as code
use Rattle.ts_command.specs.declared.option_word.OptionSet.{OptionSet}
use Rattle.ts_command.specs.declared.option_word.OptionSet.TheVariants as set

-- the meaning of an option
abbrev pub setting_of : OptionWord → Setting
setting_of code.Retention = series.retention
setting_of code.Encoding = series.encoding
setting_of code.ChunkSize = series.chunk_size
setting_of code.DuplicatePolicy = series.duplicate_policy
setting_of code.Ignore = series.ignore
setting_of code.OnDuplicate = series.on_duplicate
setting_of code.Timestamp = series.timestamp
setting_of code.Labels = series.labels
setting_of code.Latest = ranges.latest
setting_of code.FilterByTs = ranges.filter_by_ts
setting_of code.FilterByValue = ranges.filter_by_value
setting_of code.Count = ranges.count
setting_of code.Aggregation = ranges.aggregation
setting_of code.Align = ranges.align
setting_of code.BucketTimestamp = ranges.bucket_timestamp
setting_of code.Empty = ranges.empty
setting_of code.WithLabels = many.with_labels
setting_of code.SelectedLabels = many.selected_labels
setting_of code.Filter = many.filter
setting_of code.GroupBy = many.group_by

-- whether parsing the option allocates
abbrev pub is_list : OptionWord → Bool
is_list code.Labels = true
is_list code.FilterByTs = true
is_list code.SelectedLabels = true
is_list code.Filter = true
is_list code.GroupBy = true
is_list _ = false

-- the options of a set
abbrev pub table_of : OptionSet → Table Setting
table_of set.Create = series_options
table_of set.Alter = alter_options
table_of set.Add = add_options
table_of set.Incr = incr_options
table_of set.Range = range_options
table_of set.ManyRanges = many_options
table_of set.ManyLast = last_options

-- the name of the option with a list, in a set with only one
abbrev pub list_option : OptionSet → Option (List ℕ)
list_option set.Create = Some (codes "LABELS")
list_option set.Alter = Some (codes "LABELS")
list_option set.Add = Some (codes "LABELS")
list_option set.Incr = Some (codes "LABELS")
list_option set.Range = Some (codes "FILTER_BY_TS")
list_option set.ManyRanges = None
list_option set.ManyLast = None

-- whether a word may name an option with a list
abbrev pub is_list_option : Option (List ℕ) → Word → Bool
is_list_option None word = true
is_list_option (Some name) word = str_eq_ignore_ascii_case name word

-- whether these words may contain a list
abbrev pub may_have_list : Option (List ℕ) → List Word → Bool
may_have_list None words = true
may_have_list (Some name) words = has_name name words
