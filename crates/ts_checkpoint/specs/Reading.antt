-- The results of reading a record.
use Rattle.std.specs.Prelude.{◌≡◌, ℕ, ⊤, List, Option, None, Some, Result, Ok, Err}
use Rattle.ts_spec.specs.Command.{Spec, Command, Create}
use Rattle.ts_spec.specs.Key.{Key}
use Rattle.ts_spec.specs.Refusal.{Fault}
use Rattle.ts_labels.specs.declared.spec.Spec as code_spec
use Rattle.ts_labels.specs.Spec.{spec_of}
use Rattle.ts_checkpoint.specs.declared.part.Part.{Part}
use Rattle.ts_checkpoint.specs.declared.part.PartFault.{PartFault}
use Rattle.ts_checkpoint.specs.declared.part.SeriesHead as code_series
use Rattle.ts_checkpoint.specs.declared.part.PartFault.TheVariants.{Refused, Memory}
use Rattle.ts_restore.specs.Summaries.{summary_of}
use Rattle.ts_checkpoint.specs.declared.read_rule.RuleNumbers.{RuleNumbers}
use Rattle.ts_checkpoint.specs.PartOf as spec_part
use Rattle.ts_checkpoint.specs.Parts as spec
use Rattle.ts_checkpoint.specs.Parts.{value_of, series_of}
use Rattle.ts_checkpoint.specs.Sayable.{IsSayableSeries}

-- the record was refused because it says nothing, or there was no memory
abbrev pub IsFaultOf : {X : Type 0} → Option X → PartFault → Type 0
IsFaultOf wanted Refused = wanted ≡ None
IsFaultOf wanted (Memory error) = ⊤

-- the result is what the record says, or why it could not be read
abbrev pub Reads : Option spec.Part → Result Part PartFault → Type 0
Reads wanted (Ok part) = wanted ≡ Some (value_of part)
Reads wanted (Err fault) = IsFaultOf wanted fault

-- the words are no command, or there was no memory
abbrev pub IsCommandFault : Result Command Fault → PartFault → Type 0
IsCommandFault wanted Refused = (fault : Fault) × (wanted ≡ Err fault)
IsCommandFault wanted (Memory error) = ⊤

-- the numbers of a rule
abbrev pub numbers_of : RuleNumbers → spec_part.RuleNumbers
numbers_of n = record { made = n.made; current = n.current; running = summary_of n.running }

-- the series as it reads back, if words can say it
abbrev pub ReadsBack : spec.SeriesHead → Option code_series.SeriesHead → Type 0
ReadsBack wanted None = IsSayableSeries wanted → ⊥
ReadsBack wanted (Some s) = IsSayableSeries wanted × (series_of s ≡ wanted)

-- the key, options and labels of this TS.CREATE, if it is this one
abbrev pub IsCreatedBy : Result Command Fault → Key → Spec → Option (List ℕ × code_spec.Spec) → Type 0
IsCreatedBy read key wanted None = read ≡ Ok (Create key wanted) → ⊥
IsCreatedBy read key wanted (Some found) =
    (read ≡ Ok (Create key wanted)) × (found.0 ≡ key) × (spec_of found.1 ≡ wanted)
