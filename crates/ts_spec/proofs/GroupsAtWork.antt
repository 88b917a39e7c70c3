-- Worked examples: GROUPBY.
use Rattle.std.specs.Prelude.{◌≡◌, refl, pos, ℕ, true, false, List, [], ◌∷◌, ◌++◌, codes, Some, None}
use Rattle.ts_spec.specs.declared.limits.Limits.{Limits}
use Rattle.ts_spec.specs.declared.bucket.Aggregator.TheVariants as aggregator
use Rattle.ts_spec.specs.declared.bucket.Reducer.{Reducer}
use Rattle.ts_spec.specs.declared.bucket.Reducer.TheVariants.{Avg, Sum, Min, Max, Range, Count}
use Rattle.ts_spec.specs.declared.bucket.Stamp.TheVariants as stamp
use Rattle.ts_spec.specs.Limits.{usual}
use Rattle.ts_spec.specs.Value.{clamp, div_round}
use Rattle.ts_spec.specs.Sample.{MAX_TIME}
use Rattle.ts_spec.specs.Key.{Key}
use Rattle.ts_spec.specs.State.{Label, empty}
use Rattle.ts_spec.specs.Filter.{OneOf}
use Rattle.ts_spec.specs.Refusal.{EmptyRows}
use Rattle.ts_spec.specs.Command.{Command, Create, MRange, Query, Show, Nothing, All, Selected, GroupBy}
use Rattle.ts_spec.specs.Answer.{Number, Row}
use Rattle.ts_spec.specs.Response.{Response, Done, Members, Refused, Member, ShownLabel}
use Rattle.ts_spec.specs.Response as response
use Rattle.ts_spec.specs.Groups.{Labelled, groups}
use Rattle.ts_spec.proofs.Examples.{responses, add, kept_for, question, tens, row, no_value}
use Rattle.ts_spec.proofs.StoredExamples.{responses_within_from}

-- ---- four series: two of area x, one of area y, and one without an area

-- TS.CREATE with labels
abbrev create_with : Key → List Label → Command
create_with key labels = Create key (record (kept_for 0) { labels = labels })

abbrev kind : Label
kind = record { name = codes "kind"; value = codes "s" }

abbrev area : List ℕ → Label
area value = record { name = codes "area"; value = value }

abbrev series : List Command
series =
    create_with (codes "m1") (kind ∷ area (codes "x") ∷ []) ∷ create_with (codes "m2") (kind ∷ area (codes "x") ∷ [])
    ∷ create_with (codes "m3") (kind ∷ area (codes "y") ∷ []) ∷ create_with (codes "m4") (kind ∷ [])
    ∷ add (codes "m1") 1 2 ∷ add (codes "m1") 5 4 ∷ add (codes "m2") 1 5 ∷ add (codes "m3") 1 9 ∷ add (codes "m4") 1 1 ∷ []

abbrev made : List Response
made = Done ∷ Done ∷ Done ∷ Done ∷ response.Count 1 ∷ response.Count 5 ∷ response.Count 1 ∷ response.Count 1 ∷ response.Count 1 ∷ []

-- TS.MRANGE .. FILTER kind=s GROUPBY area REDUCE ..
abbrev by_area : Reducer → GroupBy
by_area reducer = record { label = codes "area"; reducer = reducer }

abbrev ask : Show → Query → Reducer → Command
ask show q reducer = MRange false show (OneOf (codes "kind") (codes "s" ∷ []) ∷ []) q (Some (by_area reducer))

-- a label that is shown, with its value
abbrev shows : (name value : List ℕ) → ShownLabel
shows name value = record { name = name; value = Some value }

abbrev labels_of : (area reducer sources : List ℕ) → List ShownLabel
labels_of area reducer sources = shows (codes "area") area ∷ shows (codes "__reducer__") reducer ∷ shows (codes "__source__") sources ∷ []

pub greatest_by_area : responses (series ++ ask All (question 0 MAX_TIME None) Max ∷ [])
    ≡ made ++ Members (
    record { key = codes "area=x"; labels = labels_of (codes "x") (codes "max") (codes "m1,m2"); rows = row 1 5 ∷ row 5 4 ∷ [] }
    ∷ record { key = codes "area=y"; labels = labels_of (codes "y") (codes "max") (codes "m3"); rows = row 1 9 ∷ [] }
    ∷ []) ∷ []
greatest_by_area = refl

pub first_mean_by_area : responses (series ++ ask Nothing (record (question 0 MAX_TIME None) { count = Some 1 }) Avg ∷ [])
    ≡ made ++ Members (
    record { key = codes "area=x"; labels = []; rows = record { time = 1; value = Number (pos 3500000) } ∷ [] }
    ∷ record { key = codes "area=y"; labels = []; rows = row 1 9 ∷ [] }
    ∷ []) ∷ []
unfolding div_round
first_mean_by_area = refl

-- ---- empty buckets of a series without the label refuse nothing

abbrev at_most_three : Limits
at_most_three = record usual { empty_rows = 3 }

abbrev with_empty : Query
with_empty = question 0 MAX_TIME (tens 0 aggregator.Sum stamp.Low true)

pub no_area_and_many_buckets : responses_within_from at_most_three empty (
    create_with (codes "m1") (kind ∷ area (codes "x") ∷ []) ∷ create_with (codes "m4") (kind ∷ [])
    ∷ add (codes "m1") 1 2 ∷ add (codes "m4") 1 1 ∷ add (codes "m4") 41 1 ∷ ask Nothing with_empty Sum ∷ [])
    ≡ Done ∷ Done ∷ response.Count 1 ∷ response.Count 1 ∷ response.Count 41
    ∷ Members (record { key = codes "area=x"; labels = []; rows = row 0 2 ∷ [] } ∷ []) ∷ []
unfolding clamp
no_area_and_many_buckets = refl

-- those of one that has it do, whatever COUNT says
pub an_area_and_many_buckets : responses_within_from at_most_three empty (
    create_with (codes "m1") (kind ∷ area (codes "x") ∷ [])
    ∷ add (codes "m1") 1 2 ∷ add (codes "m1") 41 1 ∷ ask Nothing (record with_empty { count = Some 1 }) Sum ∷ [])
    ≡ Done ∷ response.Count 1 ∷ response.Count 41 ∷ Refused EmptyRows ∷ []
unfolding clamp
an_area_and_many_buckets = refl

-- ---- groups of lists

-- a series with an area and these rows
abbrev in_area : (key value : List ℕ) → List Row → Labelled
in_area key value rows = record { key = key; labels = area value ∷ []; rows = rows }

abbrev item : (value : List ℕ) → List Row → Member
item value rows = record { key = codes "area=" ++ value; labels = []; rows = rows }

pub values_ascend : groups (by_area Sum) Nothing None false (in_area (codes "a") (codes "y") (row 1 1 ∷ []) ∷ in_area (codes "b") (codes "x") [] ∷ in_area (codes "c") (codes "xy") (row 2 1 ∷ []) ∷ [])
    ≡ item (codes "x") [] ∷ item (codes "xy") (row 2 1 ∷ []) ∷ item (codes "y") (row 1 1 ∷ []) ∷ []
unfolding clamp
values_ascend = refl

abbrev of_nans : List Labelled
of_nans = in_area (codes "a") (codes "x") (no_value 1 ∷ row 2 3 ∷ []) ∷ in_area (codes "b") (codes "x") (no_value 1 ∷ no_value 2 ∷ row 3 5 ∷ []) ∷ []

pub no_number_counts_nothing : groups (by_area Count) Nothing None false of_nans ≡ item (codes "x") (no_value 1 ∷ row 2 1 ∷ row 3 1 ∷ []) ∷ []
no_number_counts_nothing = refl

pub no_number_is_no_least_one : groups (by_area Min) Nothing (Some 2) true of_nans ≡ item (codes "x") (row 3 5 ∷ row 2 3 ∷ []) ∷ []
no_number_is_no_least_one = refl

pub one_number_has_no_range : groups (by_area Range) Nothing None false (in_area (codes "a") (codes "x") (row 1 4 ∷ row 2 4 ∷ []) ∷ in_area (codes "b") (codes "x") (row 1 7 ∷ []) ∷ [])
    ≡ item (codes "x") (row 1 3 ∷ row 2 0 ∷ []) ∷ []
unfolding clamp
one_number_has_no_range = refl

pub labels_that_a_group_has : groups (by_area Max) (Selected (codes "kind" ∷ codes "__source__" ∷ codes "area" ∷ [])) (Some 0) false (in_area (codes "a") (codes "x") (row 1 1 ∷ []) ∷ in_area (codes "b") (codes "x") [] ∷ [])
    ≡ record { key = codes "area=x"; labels = record { name = codes "kind"; value = None } ∷ shows (codes "__source__") (codes "a,b") ∷ shows (codes "area") (codes "x") ∷ []; rows = [] } ∷ []
labels_that_a_group_has = refl

-- of two labels with one name, the first is shown
pub a_label_with_a_name_of_the_answer : groups (record { label = codes "__source__"; reducer = Max }) (Selected (codes "__source__" ∷ [])) None false (record { key = codes "a"; labels = record { name = codes "__source__"; value = codes "x" } ∷ []; rows = row 1 1 ∷ [] } ∷ [])
    ≡ record { key = codes "__source__=x"; labels = shows (codes "__source__") (codes "x") ∷ []; rows = row 1 1 ∷ [] } ∷ []
a_label_with_a_name_of_the_answer = refl
