-- Names in commands: of policies, encodings, aggregators, reducers, alignments and bucket timestamps.
use Rattle.std.specs.Prelude.{ℕ, List, [], ◌∷◌, if◌then◌else◌, Option, None, Some, Result, Ok, Err, codes}
use Rattle.std.specs.Str.{str_eq_ignore_ascii_case}
use Rattle.ts_spec.specs.declared.series.Policy.{Policy}
use Rattle.ts_spec.specs.declared.series.Policy.TheVariants as policy
use Rattle.ts_spec.specs.declared.series.Encoding.{Encoding}
use Rattle.ts_spec.specs.declared.series.Encoding.TheVariants as encoding
use Rattle.ts_spec.specs.declared.bucket.Aggregator.{Aggregator}
use Rattle.ts_spec.specs.declared.bucket.Aggregator.TheVariants.{Avg, Sum, Min, Max, Range, Count, First, Last}
use Rattle.ts_spec.specs.declared.bucket.Reducer.{Reducer}
use Rattle.ts_spec.specs.declared.bucket.Reducer.TheVariants as reducer
use Rattle.ts_spec.specs.declared.bucket.Align.{Align}
use Rattle.ts_spec.specs.declared.bucket.Align.TheVariants.{From, To}
use Rattle.ts_spec.specs.declared.bucket.Stamp.{Stamp}
use Rattle.ts_spec.specs.declared.bucket.Stamp.TheVariants.{Low, High, Mid}

-- names with their meanings
abbrev pub Table : Type 0 → Type 0
Table X = List (List ℕ × X)

-- looks a word up in a table, in any case
abbrev pub named : {X : Type 0} → Table X → List ℕ → Option X
named [] word = None
named (row ∷ rows) word = if str_eq_ignore_ascii_case row.0 word then Some row.1 else named rows word

-- the duplicate policies
unfoldable pub policies : Table Policy
policies =
    (codes "BLOCK", policy.Block)
    ∷ (codes "FIRST", policy.First)
    ∷ (codes "LAST", policy.Last)
    ∷ (codes "MIN", policy.Min)
    ∷ (codes "MAX", policy.Max)
    ∷ (codes "SUM", policy.Sum)
    ∷ []

-- the encodings of chunks
unfoldable pub encodings : Table Encoding
encodings =
    (codes "COMPRESSED", encoding.Compressed)
    ∷ (codes "UNCOMPRESSED", encoding.Uncompressed)
    ∷ []

-- the aggregators; `None` marks those of RedisTimeSeries that this server does not support
unfoldable pub aggregators : Table (Option Aggregator)
aggregators =
    (codes "avg", Some Avg)
    ∷ (codes "sum", Some Sum)
    ∷ (codes "min", Some Min)
    ∷ (codes "max", Some Max)
    ∷ (codes "range", Some Range)
    ∷ (codes "count", Some Count)
    ∷ (codes "first", Some First)
    ∷ (codes "last", Some Last)
    ∷ (codes "twa", None)
    ∷ (codes "std.p", None)
    ∷ (codes "std.s", None)
    ∷ (codes "var.p", None)
    ∷ (codes "var.s", None)
    ∷ []

-- the reducers of GROUPBY; `None` marks those that this server does not support
unfoldable pub reducers : Table (Option Reducer)
reducers =
    (codes "avg", Some reducer.Avg)
    ∷ (codes "sum", Some reducer.Sum)
    ∷ (codes "min", Some reducer.Min)
    ∷ (codes "max", Some reducer.Max)
    ∷ (codes "range", Some reducer.Range)
    ∷ (codes "count", Some reducer.Count)
    ∷ (codes "twa", None)
    ∷ (codes "std.p", None)
    ∷ (codes "std.s", None)
    ∷ (codes "var.p", None)
    ∷ (codes "var.s", None)
    ∷ []

-- the meaning of a name, or the fault for an unknown or an unsupported one
abbrev pub named_or : {X F : Type 0} → (unknown left_out : F) → Option (Option X) → Result X F
named_or unknown left_out None = Err unknown
named_or unknown left_out (Some None) = Err left_out
named_or unknown left_out (Some (Some x)) = Ok x

-- the names of ALIGN
unfoldable pub aligns : Table Align
aligns =
    (codes "start", From)
    ∷ (codes "-", From)
    ∷ (codes "end", To)
    ∷ (codes "+", To)
    ∷ []

-- the names of BUCKETTIMESTAMP
unfoldable pub stamps : Table Stamp
stamps =
    (codes "-", Low)
    ∷ (codes "start", Low)
    ∷ (codes "low", Low)
    ∷ (codes "+", High)
    ∷ (codes "end", High)
    ∷ (codes "high", High)
    ∷ (codes "~", Mid)
    ∷ (codes "mid", Mid)
    ∷ []
