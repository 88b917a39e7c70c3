-- The names of faults, as Debug prints them.
use Rattle.std.specs.Prelude.{ℕ, List, codes}
use Rattle.ts_rules.specs.declared.plan.RuleFault.{RuleFault}
use Rattle.ts_rules.specs.declared.plan.RuleFault.TheVariants.{Full, Memory}

-- the name of a fault
abbrev pub name_of : RuleFault → List ℕ
name_of Full = codes "Full"
name_of (Memory error) = codes "Memory(AllocError)"
