-- Commands as values of the specification.
use Rattle.std.specs.Prelude.{List, map, option_map}
use Rattle.ts_spec.specs.Command as spec
use Rattle.ts_labels.specs.Spec.{spec_of, change_of}
use Rattle.ts_labels.specs.Show.{show_of}
use Rattle.ts_range.specs.Query.{query_of}
use Rattle.ts_command.specs.declared.command.Command.{Command}
use Rattle.ts_command.specs.declared.command.Command.TheVariants.{Create, Alter, Add, Madd, Incr, DelRange, CreateRule, DeleteRule, Range, MRange, Get, MGet, QueryIndex, InfoOf, Ping, Echo, Quit, Drop, Exists}
use Rattle.ts_command.specs.declared.command.Triple.{Triple}
use Rattle.ts_command.specs.Faults.{result_with_fault}
use Rattle.ts_command.specs.GroupBy.{group_of}

-- a sample of TS.MADD
abbrev pub triple_of : Triple → spec.Triple
triple_of t = record { key = t.key; at = result_with_fault t.at; value = result_with_fault t.value }

-- all samples of TS.MADD
abbrev pub triples_of : List Triple → List spec.Triple
triples_of ts = map triple_of ts

-- a command
abbrev pub command_of : Command → spec.Command
command_of (Create key s) = spec.Create key (spec_of s)
command_of (Alter key c) = spec.Alter key (change_of c)
command_of (Add key at value on s) = spec.Add key at value on (spec_of s)
command_of (Madd triples) = spec.Madd (triples_of triples.items)
command_of (Incr key change at s) = spec.Incr key change at (spec_of s)
command_of (DelRange key from to) = spec.DelRange key from to
command_of (CreateRule source dest agg grid) = spec.CreateRule source dest agg grid
command_of (DeleteRule source dest) = spec.DeleteRule source dest
command_of (Range key latest query) = spec.Range key latest (query_of query)
command_of (MRange latest show filters query group) = spec.MRange latest (show_of show) filters.items (query_of query) (option_map group_of group)
command_of (Get key latest) = spec.Get key latest
command_of (MGet latest show filters) = spec.MGet latest (show_of show) filters.items
command_of (QueryIndex filters) = spec.QueryIndex filters.items
command_of (InfoOf key) = spec.InfoOf key
command_of (Ping word) = spec.Ping word
command_of (Echo word) = spec.Echo word
command_of Quit = spec.Quit
command_of (Drop keys) = spec.Drop keys.items
command_of (Exists keys) = spec.Exists keys.items
