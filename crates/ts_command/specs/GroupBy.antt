-- GROUPBY as a value of the specification.
use Rattle.ts_spec.specs.Command as spec
use Rattle.ts_command.specs.declared.range_options.GroupBy.{GroupBy}

-- the label to group by, and the reducer
abbrev pub group_of : GroupBy → spec.GroupBy
group_of g = record { label = g.label; reducer = g.reducer }
