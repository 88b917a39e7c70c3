-- Errors of texts that are not valid filters.
use Rattle.std.specs.Prelude.{◌≡◌, ⊤, ℕ, List, Result, Ok, Err, IsOk, if◌then◌else◌}
use Rattle.ts_spec.specs.FilterText as spec
use Rattle.ts_spec.specs.FilterText.{comma, pieces, has_empty}
use Rattle.ts_labels.specs.declared.filter_text.FilterFault.{FilterFault}
use Rattle.ts_labels.specs.declared.filter_text.FilterFault.TheVariants.{NoOperator, EmptyLabel, EmptyList, Memory}

-- the error is the expected one; out of memory is allowed only if no other error is expected
abbrev pub IsFaultOf : {Y : Type 0} → FilterFault → Result Y spec.FilterFault → Type 0
IsFaultOf NoOperator wanted = wanted ≡ Err spec.NoOperator
IsFaultOf EmptyLabel wanted = wanted ≡ Err spec.EmptyLabel
IsFaultOf EmptyList wanted = wanted ≡ Err spec.EmptyList
IsFaultOf (Memory error) wanted = IsOk wanted

-- out of memory
abbrev pub IsMemory : FilterFault → Type 0
IsMemory (Memory error) = ⊤
IsMemory fault = ⊥

-- the values of a list, split at commas; an empty value is an error
abbrev pub list_values : List ℕ → Result (List (List ℕ)) spec.FilterFault
list_values text = if has_empty (pieces comma text) then Err spec.EmptyList else Ok (pieces comma text)
