-- The names of faults, as Debug prints them.
use Rattle.std.specs.Prelude.{ℕ, List, codes}
use Rattle.ts_series.specs.declared.plan.PutFault.{PutFault}
use Rattle.ts_series.specs.declared.plan.PutFault.TheVariants.{TooOld, Duplicate, OutOfRange, Full, Unwritten, Memory}

-- the name of a fault
abbrev pub name_of : PutFault → List ℕ
name_of TooOld = codes "TooOld"
name_of Duplicate = codes "Duplicate"
name_of OutOfRange = codes "OutOfRange"
name_of Full = codes "Full"
name_of (Unwritten sample) = codes "Unwritten"
name_of (Memory error) = codes "Memory(AllocError)"
