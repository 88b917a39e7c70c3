-- A filter as ts_spec defines it.
use Rattle.std.specs.Prelude.{ℕ, List}
use Rattle.ts_spec.specs.Filter as spec
use Rattle.ts_labels.specs.declared.filter.LabelCondition.{LabelCondition}
use Rattle.ts_labels.specs.declared.filter.LabelCondition.TheVariants.{OneOf, NoneOf, Absent, Present}

-- the filter with this condition on the label
abbrev pub filter_in : (label : List ℕ) → LabelCondition → spec.Filter
filter_in label (OneOf values) = spec.OneOf label values
filter_in label (NoneOf values) = spec.NoneOf label values
filter_in label Absent = spec.Absent label
filter_in label Present = spec.Present label
