-- The options of range queries, and the query that they make.
use Rattle.std.specs.Prelude.{◌≡◌, ℕ, ◌≤◌, ◌^◌, Bool, true, false, not, ◌&&◌, ◌||◌, nat_le, if◌then◌else◌, List, [], ◌∷◌, codes, Option, None, Some, is_some, ok_or, unwrap_or, option_map, Result, Ok, Err}
use Rattle.std.specs.Str.{bytes_eq}
use Rattle.ts_spec.specs.declared.bucket.Aggregator.{Aggregator}
use Rattle.ts_spec.specs.declared.bucket.Align.{Align}
use Rattle.ts_spec.specs.declared.bucket.Align.TheVariants.{From, To, Time}
use Rattle.ts_spec.specs.declared.bucket.Stamp.{Stamp}
use Rattle.ts_spec.specs.declared.bucket.Stamp.TheVariants.{Low}
use Rattle.ts_spec.specs.Names.{Table, named, aggregators, named_or, aligns, stamps}
use Rattle.ts_spec.specs.Number.{number}
use Rattle.ts_spec.specs.Sample.{MAX_TIME}
use Rattle.ts_spec.specs.Command.{Buckets, Query}
use Rattle.ts_spec.specs.Refusal.{Fault, BadOption, UnknownAggregator, AggregatorNotInProfile, BadDuration}
use Rattle.ts_spec.specs.Settings.{Word, and_then, time_word, value_word, Given, Setting, no_words, one_word, two_words, some_words, has_name}

-- ---- single words

-- parses COUNT
unfoldable pub count_word : Word → Result ℕ Fault
count_word word = ok_or (number word) BadOption

-- parses the name of an aggregator
unfoldable pub aggregator_word : Word → Result Aggregator Fault
aggregator_word word = named_or UnknownAggregator AggregatorNotInProfile (named aggregators word)

-- the valid bucket durations: 1 to 10^14 milliseconds
abbrev pub IsDuration : ℕ → Type 0
IsDuration n = (1 ≤ n) × (n ≤ 10 ^ 14)

-- whether a bucket duration is valid
abbrev pub is_duration : ℕ → Bool
is_duration n = nat_le 1 n && nat_le n (10 ^ 14)

-- parses a bucket duration
unfoldable pub duration_word : Word → Result ℕ Fault
duration_word word = and_then (ok_or (number word) BadDuration) (λ n. if is_duration n then Ok n else Err BadDuration)

-- the named alignment, or else the time
abbrev pub align_or : Option Align → Option ℕ → Option Align
align_or (Some end) time = Some end
align_or None None = None
align_or None (Some t) = Some (Time t)

-- parses ALIGN: an end of the interval or a time
unfoldable pub align_word : Word → Result Align Fault
align_word word = ok_or (align_or (named aligns word) (number word)) BadOption

-- a time in ALIGN is at most MAX_TIME
abbrev pub IsAlign : Align → Type 0
IsAlign align = (t : ℕ) → align ≡ Time t → t ≤ MAX_TIME

-- parses BUCKETTIMESTAMP
unfoldable pub stamp_word : Word → Result Stamp Fault
stamp_word word = ok_or (named stamps word) BadOption

-- parses times, one word each
abbrev pub times_of : List Word → Result (List ℕ) Fault
times_of [] = Ok []
times_of (word ∷ words) = and_then (time_word word) (λ t. and_then (times_of words) (λ ts. Ok (t ∷ ts)))

-- ---- options

-- FILTER_BY_TS: the times that pass
abbrev pub filter_by_ts : Setting
filter_by_ts = some_words (λ given. is_some given.times) (λ words given. and_then (times_of words) (λ ts. Ok (record given { times = Some ts })))

-- FILTER_BY_VALUE: the least and the greatest value that pass
abbrev pub filter_by_value : Setting
filter_by_value = two_words (λ given. is_some given.values) (λ least greatest given.
    and_then (value_word least) (λ low. and_then (value_word greatest) (λ high. Ok (record given { values = Some (record { least = low; greatest = high }) }))))

-- COUNT: the most rows to return
abbrev pub count : Setting
count = one_word (λ given. is_some given.count) (λ word given. and_then (count_word word) (λ n. Ok (record given { count = Some n })))

-- AGGREGATION: the aggregator and the bucket duration
abbrev pub aggregation : Setting
aggregation = two_words (λ given. is_some given.aggregation) (λ name length given.
    and_then (aggregator_word name) (λ agg. and_then (duration_word length) (λ n. Ok (record given { aggregation = Some (record { agg = agg; duration = n }) }))))

-- ALIGN: where one of the buckets starts
abbrev pub align : Setting
align = one_word (λ given. is_some given.align) (λ word given. and_then (align_word word) (λ end. Ok (record given { align = Some end })))

-- BUCKETTIMESTAMP: which time a bucket is reported with
abbrev pub bucket_timestamp : Setting
bucket_timestamp = one_word (λ given. is_some given.stamp) (λ word given. and_then (stamp_word word) (λ mode. Ok (record given { stamp = Some mode })))

-- EMPTY: empty buckets get rows too
abbrev pub empty : Setting
empty = no_words (λ given. given.empty) (λ given. record given { empty = true })

-- LATEST: includes the open bucket of a rule
abbrev pub latest : Setting
latest = no_words (λ given. given.latest) (λ given. record given { latest = true })

-- the options of a range query
unfoldable pub range_options : Table Setting
range_options =
    (codes "LATEST", latest)
    ∷ (codes "FILTER_BY_TS", filter_by_ts)
    ∷ (codes "FILTER_BY_VALUE", filter_by_value)
    ∷ (codes "COUNT", count)
    ∷ (codes "AGGREGATION", aggregation)
    ∷ (codes "ALIGN", align)
    ∷ (codes "BUCKETTIMESTAMP", bucket_timestamp)
    ∷ (codes "EMPTY", empty)
    ∷ []

-- whether FILTER_BY_TS is among the words
abbrev pub has_list : List Word → Bool
has_list = has_name (codes "FILTER_BY_TS")

-- ---- the query

-- whether ALIGN, BUCKETTIMESTAMP or EMPTY is given without AGGREGATION
abbrev pub lacks_aggregation : Given → Bool
lacks_aggregation given = (is_some given.align || is_some given.stamp || given.empty) && not (is_some given.aggregation)

-- whether ALIGN names an end of the interval that is `-` or `+`, not a time
abbrev pub lacks_end : Option Align → (from to : Word) → Bool
lacks_end (Some From) from to = bytes_eq from (codes "-")
lacks_end (Some To) from to = bytes_eq to (codes "+")
lacks_end other from to = false

-- the start of one of the buckets: 0 by default
abbrev pub aligned : (from to : ℕ) → Option Align → ℕ
aligned from to None = 0
aligned from to (Some From) = from
aligned from to (Some To) = to
aligned from to (Some (Time t)) = t

-- the buckets of a query; by default each is reported at its start
abbrev pub buckets : (from to : ℕ) → Given → Option Buckets
buckets from to given =
    option_map
    (λ a. record {
      grid = record { align = aligned from to given.align; duration = a.duration };
      agg = a.agg;
      stamp = unwrap_or given.stamp Low;
      empty = given.empty;
    })
    given.aggregation

-- the query for an interval
abbrev pub interval : (reverse : Bool) → (from to : ℕ) → Given → Query
interval reverse from to given = record {
  from = from;
  to = to;
  times = given.times;
  values = given.values;
  count = given.count;
  buckets = buckets from to given;
  reverse = reverse;
}

-- The same, or BadOption if the options for buckets conflict. `from` and `to` are the words, `first` and `last` their
-- times.
abbrev pub query : (reverse : Bool) → (from to : Word) → (first last : ℕ) → Given → Result Query Fault
query reverse from to first last given =
    if lacks_aggregation given then Err BadOption
    else (if lacks_end given.align from to then Err BadOption else Ok (interval reverse first last given))
