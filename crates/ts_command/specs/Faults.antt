-- Errors of commands as values of the specification.
use Rattle.std.specs.Prelude.{◌≡◌, ℕ, List, Result, Ok, Err}
use Rattle.ts_spec.specs.Refusal as spec
use Rattle.ts_spec.specs.Refusal.{Fault}
use Rattle.ts_spec.specs.Messages.{fault_message, memory_message}
use Rattle.std.specs.declared.alloc.AllocError.{AllocError}
use Rattle.ts_command.specs.declared.fault.CommandFault.{CommandFault}
use Rattle.ts_command.specs.declared.fault.CommandFault.TheVariants as code
use Rattle.ts_command.specs.declared.fault.WordFault.{WordFault}
use Rattle.ts_command.specs.declared.fault.WordFault.TheVariants as word
use Rattle.ts_command.specs.declared.fault.ReadFault.{ReadFault}
use Rattle.ts_command.specs.declared.fault.ReadFault.TheVariants as read

-- The error in the words. `Memory` has no counterpart: no command contains it, and results that allow it say so.
abbrev pub fault_of : CommandFault → Fault
fault_of code.UnknownCommand = spec.UnknownCommand
fault_of code.Arity = spec.Arity
fault_of code.BadTimestamp = spec.BadTimestamp
fault_of (code.BadValue fault) = spec.BadValue fault
fault_of code.BadOption = spec.BadOption
fault_of code.RepeatedOption = spec.RepeatedOption
fault_of code.BadLabels = spec.BadLabels
fault_of code.BadChunkSize = spec.BadChunkSize
fault_of code.BadPolicy = spec.BadPolicy
fault_of code.BadEncoding = spec.BadEncoding
fault_of code.UnknownAggregator = spec.UnknownAggregator
fault_of code.AggregatorNotInProfile = spec.AggregatorNotInProfile
fault_of code.BadDuration = spec.BadDuration
fault_of code.BadFilter = spec.BadFilter
fault_of code.NoPositiveFilter = spec.NoPositiveFilter
fault_of (code.Memory _) = spec.UnknownCommand

-- the error is not `Memory`
abbrev pub IsNoMemory : CommandFault → Type 0
IsNoMemory fault = (error : AllocError) → fault ≡ code.Memory error → ⊥

-- the error in the words after a command's name
abbrev pub fault_of_word : WordFault → Fault
fault_of_word word.Arity = spec.Arity
fault_of_word word.BadTimestamp = spec.BadTimestamp
fault_of_word (word.BadValue fault) = spec.BadValue fault
fault_of_word word.BadOption = spec.BadOption
fault_of_word word.RepeatedOption = spec.RepeatedOption
fault_of_word word.BadLabels = spec.BadLabels
fault_of_word word.BadChunkSize = spec.BadChunkSize
fault_of_word word.BadPolicy = spec.BadPolicy
fault_of_word word.BadEncoding = spec.BadEncoding
fault_of_word word.UnknownAggregator = spec.UnknownAggregator
fault_of_word word.AggregatorNotInProfile = spec.AggregatorNotInProfile
fault_of_word word.BadDuration = spec.BadDuration
fault_of_word word.BadFilter = spec.BadFilter
fault_of_word word.NoPositiveFilter = spec.NoPositiveFilter

-- the result matches the specification's, where `view` maps values of the program to those of the specification
abbrev pub Matches : {X Y : Type 0} → (X → Y) → Result X WordFault → Result Y Fault → Type 0
Matches view (Ok x) wanted = wanted ≡ Ok (view x)
Matches view (Err fault) wanted = wanted ≡ Err (fault_of_word fault)

-- the same for values that need no mapping
abbrev pub MatchesSame : {X : Type 0} → Result X WordFault → Result X Fault → Type 0
MatchesSame (Ok x) wanted = wanted ≡ Ok x
MatchesSame (Err fault) wanted = wanted ≡ Err (fault_of_word fault)

-- the error matches the specification's, or is `Memory` where that is allowed
abbrev pub IsFaultOrMemory : {Y : Type 0} → (allowed : Type 0) → ReadFault → Result Y Fault → Type 0
IsFaultOrMemory allowed (read.Word fault) wanted = wanted ≡ Err (fault_of_word fault)
IsFaultOrMemory allowed (read.Memory error) wanted = allowed

-- The result matches the specification's under `view`. It may be `Memory` only where that is allowed.
abbrev pub MatchesOrMemory : {X Y : Type 0} → (allowed : Type 0) → (X → Y) → Result X ReadFault → Result Y Fault → Type 0
MatchesOrMemory allowed view (Ok x) wanted = wanted ≡ Ok (view x)
MatchesOrMemory allowed view (Err fault) wanted = IsFaultOrMemory allowed fault wanted

-- the time or value of a sample of TS.MADD, or its error
abbrev pub result_with_fault : {X : Type 0} → Result X CommandFault → Result X Fault
result_with_fault (Ok x) = Ok x
result_with_fault (Err fault) = Err (fault_of fault)

-- the text of the error reply
abbrev pub message : CommandFault → List ℕ
message (code.Memory _) = memory_message
message fault = fault_message (fault_of fault)
