-- The names of errors, as Debug prints them.
use Rattle.std.specs.Prelude.{ℕ, List, codes}
use Rattle.ts_range.specs.declared.query.RangeFault.{RangeFault}
use Rattle.ts_range.specs.declared.query.RangeFault.TheVariants.{EmptyRows, Memory}

-- the name of an error
abbrev pub name_of : RangeFault → List ℕ
name_of EmptyRows = codes "EmptyRows"
name_of (Memory error) = codes "Memory(AllocError)"
