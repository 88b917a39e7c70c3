use Rattle.std.proofs.Common.{◌≡◌, ◌+◌, drop}
use Rattle.ts_spec.specs.Settings.{count_own, is_known}
use Rattle.ts_command.specs.Options.{table_of}
use Rattle.ts_command.proofs.options.count_own.Given as goal

-- the words so far are no options
abbrev pub invariant-loop-index : goal.invariant-loop-index
invariant-loop-index l = l.index + count_own (is_known (table_of l.set)) (drop l.index l.words) ≡ count_own (is_known (table_of l.set)) l.words
