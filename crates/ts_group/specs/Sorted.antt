-- Grouping anything that represents a series by the value of a label.
use Rattle.std.specs.Prelude.{ℕ, List, map, filter}
use Rattle.ts_spec.specs.Filter.{value_of}
use Rattle.ts_spec.specs.Groups.{Labelled, values, is_value}

-- those whose series have this value of the label, in order
abbrev pub having_of : {T : Type 0} → (series : T → Labelled) → (label value : List ℕ) → List T → List T
having_of series label value ts = filter (λ t. is_value value (value_of label (series t).labels)) ts

-- the values of the label, in ascending order, each once
abbrev pub values_of : {T : Type 0} → (series : T → Labelled) → (label : List ℕ) → List T → List (List ℕ)
values_of series label ts = values label (map series ts)

-- each value, with those whose series have it
abbrev pub by_values_of : {T : Type 0} → (series : T → Labelled) → (label : List ℕ) → List T → List (List ℕ × List T)
by_values_of series label ts = map (λ value. (value, having_of series label value ts)) (values_of series label ts)
