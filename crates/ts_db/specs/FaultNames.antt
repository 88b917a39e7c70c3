-- How Debug prints errors.
use Rattle.std.specs.Prelude.{ℕ, Bool, true, false, List, ◌++◌, codes}
use Rattle.std.specs.Fmt.{decimal}
use Rattle.ts_db.specs.declared.fault.DbFault.{DbFault}
use Rattle.ts_db.specs.declared.fault.DbFault.TheVariants.{KeyExists, NoKey, KeysFull, LabelsFull, TooOld, Duplicate, OutOfRange, BeforeLast, SamplesFull, DeleteBeyondRetention, SameKey, SourceIsDest, DestIsSource, DestHasSource, RulesSpent, RulesFull, NoRule, Memory}

-- the name of an error
abbrev pub name_of : DbFault → List ℕ
name_of KeyExists = codes "KeyExists"
name_of NoKey = codes "NoKey"
name_of KeysFull = codes "KeysFull"
name_of LabelsFull = codes "LabelsFull"
name_of TooOld = codes "TooOld"
name_of Duplicate = codes "Duplicate"
name_of OutOfRange = codes "OutOfRange"
name_of BeforeLast = codes "BeforeLast"
name_of (SamplesFull id written) = codes "SamplesFull"
name_of DeleteBeyondRetention = codes "DeleteBeyondRetention"
name_of SameKey = codes "SameKey"
name_of SourceIsDest = codes "SourceIsDest"
name_of DestIsSource = codes "DestIsSource"
name_of DestHasSource = codes "DestHasSource"
name_of RulesSpent = codes "RulesSpent"
name_of RulesFull = codes "RulesFull"
name_of NoRule = codes "NoRule"
name_of (Memory error) = codes "Memory(AllocError)"

-- which series is full
abbrev pub series_name_of : (written : Bool) → List ℕ
series_name_of true = codes "written"
series_name_of false = codes "destination"

-- the name of an error; for a full series also its id and which one it is
abbrev pub debug_of : DbFault → List ℕ
debug_of (SamplesFull id written) = codes "SamplesFull(Id(" ++ decimal id.0 ++ codes "), " ++ series_name_of written ++ codes ")"
debug_of fault = name_of fault
