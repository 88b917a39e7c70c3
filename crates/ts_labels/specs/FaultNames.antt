-- Names of filter errors, as Debug prints them.
use Rattle.std.specs.Prelude.{ℕ, List, codes}
use Rattle.ts_labels.specs.declared.filter_text.FilterFault.{FilterFault}
use Rattle.ts_labels.specs.declared.filter_text.FilterFault.TheVariants.{NoOperator, EmptyLabel, EmptyList, Memory}

-- the name of an error
abbrev pub name_of : FilterFault → List ℕ
name_of NoOperator = codes "NoOperator"
name_of EmptyLabel = codes "EmptyLabel"
name_of EmptyList = codes "EmptyList"
name_of (Memory error) = codes "Memory(AllocError)"
