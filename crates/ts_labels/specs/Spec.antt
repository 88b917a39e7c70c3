-- The options and labels in commands, as ts_spec defines them.
use Rattle.ts_spec.specs.Command as command
use Rattle.ts_labels.specs.declared.spec.Spec.{Spec}
use Rattle.ts_labels.specs.declared.spec.Change.{Change}

-- the options and labels of a new series
abbrev pub spec_of : Spec → command.Spec
spec_of s = record { options = s.options; labels = s.labels }

-- the changes of TS.ALTER
abbrev pub change_of : Change → command.Change
change_of c = record { retention = c.retention; chunk_size = c.chunk_size; policy = c.policy; ignore = c.ignore; labels = c.labels }
