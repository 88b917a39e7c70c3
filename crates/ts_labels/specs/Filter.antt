-- The parts of a filter.
use Rattle.std.specs.Prelude.{ℕ, List, []}
use Rattle.ts_spec.specs.Filter.{Filter, OneOf, NoneOf, Absent, Present}

-- the label that a filter tests
abbrev pub label_of : Filter → List ℕ
label_of (OneOf label values) = label
label_of (NoneOf label values) = label
label_of (Absent label) = label
label_of (Present label) = label

-- the accepted values, if the filter requires a value; empty otherwise
abbrev pub required_values : Filter → List (List ℕ)
required_values (OneOf label values) = values
required_values other = []

-- the values that a filter names
abbrev pub values_of : Filter → List (List ℕ)
values_of (OneOf label values) = values
values_of (NoneOf label values) = values
values_of (Absent label) = []
values_of (Present label) = []

-- a number for each kind of condition
abbrev pub kind_of : Filter → ℕ
kind_of (OneOf label values) = 0
kind_of (NoneOf label values) = 1
kind_of (Absent label) = 2
kind_of (Present label) = 3
