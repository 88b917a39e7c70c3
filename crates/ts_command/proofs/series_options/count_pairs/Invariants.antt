use Rattle.std.proofs.Common.{◌≡◌, ◌≤◌, ◌+◌, ◌-◌, length}
use Rattle.ts_spec.specs.Settings.{is_known}
use Rattle.ts_spec.specs.SeriesOptions.{count_pairs}
use Rattle.ts_command.specs.Options.{table_of}
use Rattle.ts_command.proofs.series_options.count_pairs.Given as goal

-- the words so far are pairs, and no label is an option
abbrev pub invariant-loop-name : goal.invariant-loop-name
invariant-loop-name l = record {
  fewer : length l.rest ≤ length l.words;
  pairs : length l.words - length l.rest + count_pairs (is_known (table_of l.set)) l.rest ≡ count_pairs (is_known (table_of l.set)) l.words;
}

abbrev pub decreases-loop-name : goal.decreases-loop-name
decreases-loop-name l = length l.rest
