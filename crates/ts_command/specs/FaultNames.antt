-- The names of errors, as Debug prints them.
use Rattle.std.specs.Prelude.{ℕ, List, codes}
use Rattle.ts_command.specs.declared.fault.CommandFault.{CommandFault}
use Rattle.ts_command.specs.declared.fault.CommandFault.TheVariants.{UnknownCommand, Arity, BadTimestamp, BadValue, BadOption, RepeatedOption, BadLabels, BadChunkSize, BadPolicy, BadEncoding, UnknownAggregator, AggregatorNotInProfile, BadDuration, BadFilter, NoPositiveFilter, Memory}
use Rattle.ts_spec.specs.declared.units.ValueFault.TheVariants.{NotANumber, OutOfRange}

-- the name of an error
abbrev pub name_of : CommandFault → List ℕ
name_of UnknownCommand = codes "UnknownCommand"
name_of Arity = codes "Arity"
name_of BadTimestamp = codes "BadTimestamp"
name_of (BadValue NotANumber) = codes "BadValue(NotANumber)"
name_of (BadValue OutOfRange) = codes "BadValue(OutOfRange)"
name_of BadOption = codes "BadOption"
name_of RepeatedOption = codes "RepeatedOption"
name_of BadLabels = codes "BadLabels"
name_of BadChunkSize = codes "BadChunkSize"
name_of BadPolicy = codes "BadPolicy"
name_of BadEncoding = codes "BadEncoding"
name_of UnknownAggregator = codes "UnknownAggregator"
name_of AggregatorNotInProfile = codes "AggregatorNotInProfile"
name_of BadDuration = codes "BadDuration"
name_of BadFilter = codes "BadFilter"
name_of NoPositiveFilter = codes "NoPositiveFilter"
name_of (Memory error) = codes "Memory(AllocError)"
