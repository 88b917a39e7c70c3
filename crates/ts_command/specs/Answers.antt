-- The results of `read`.
use Rattle.std.specs.Prelude.{◌≡◌, ◌≤◌, ⊤, Err, IsTrue}
use Rattle.ts_spec.specs.Wire.{Request}
use Rattle.ts_spec.specs.Grammar.{command, makes_list}
use Rattle.ts_spec.specs.Sample.{MAX_TIME}
use Rattle.ts_spec.specs.Settings.{IsTime}
use Rattle.ts_command.specs.declared.command.Command.{Command}
use Rattle.ts_command.specs.declared.command.Command.TheVariants.{Add, Incr, DelRange}
use Rattle.ts_command.specs.declared.fault.CommandFault.{CommandFault}
use Rattle.ts_command.specs.declared.fault.CommandFault.TheVariants.{Memory}
use Rattle.ts_command.specs.Faults.{fault_of}

-- The error is the first one in the request. Running out of memory is possible only for requests with lists.
abbrev pub IsFaultIn : Request → CommandFault → Type 0
IsFaultIn words (Memory _) = IsTrue (makes_list words)
IsFaultIn words fault = command words ≡ Err (fault_of fault)

-- the times of the command are at most `MAX_TIME`
abbrev pub HasTime : Command → Type 0
HasTime (Add key at value on spec) = IsTime at
HasTime (Incr key change at spec) = IsTime at
HasTime (DelRange key from to) = (from ≤ MAX_TIME) × (to ≤ MAX_TIME)
HasTime _ = ⊤
