-- The names of errors in debug output.
use Rattle.std.specs.Prelude.{ℕ, List, codes}
use Rattle.ts_checkpoint.specs.declared.part.PartFault.{PartFault}
use Rattle.ts_checkpoint.specs.declared.part.PartFault.TheVariants.{Refused, Memory}

-- the name of an error
abbrev pub name_of : PartFault → List ℕ
name_of Refused = codes "Refused"
name_of (Memory error) = codes "Memory(AllocError)"
