-- TS.ADD without options, or with ON_DUPLICATE alone, as a command of the specification.
use Rattle.ts_spec.specs.Command.{Command, Add}
use Rattle.ts_spec.specs.Settings.{nothing}
use Rattle.ts_spec.specs.SeriesOptions.{spec}
use Rattle.ts_command.specs.declared.simple_add.SimpleAdd.{SimpleAdd}

-- a series that it creates has the default options
abbrev pub simple_add_of : SimpleAdd → Command
simple_add_of a = Add a.key.now a.at a.value a.on (spec nothing)
