-- The names of faults, as `Debug` prints them.
use Rattle.std.specs.Prelude.{ℕ, List, codes}
use Rattle.ts_agg.specs.declared.names.AggFault.{AggFault}
use Rattle.ts_agg.specs.declared.names.AggFault.TheVariants.{NotInProfile, Unknown}

-- the name of a fault
abbrev pub name_of : AggFault → List ℕ
name_of NotInProfile = codes "NotInProfile"
name_of Unknown = codes "Unknown"
