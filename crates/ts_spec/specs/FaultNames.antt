-- The names of faults, as `Debug` prints them.
use Rattle.std.specs.Prelude.{ℕ, List, codes}
use Rattle.ts_spec.specs.declared.units.ValueFault.{ValueFault}
use Rattle.ts_spec.specs.declared.units.ValueFault.TheVariants.{NotANumber, OutOfRange}

-- the name of a fault
abbrev pub name_of : ValueFault → List ℕ
name_of NotANumber = codes "NotANumber"
name_of OutOfRange = codes "OutOfRange"
