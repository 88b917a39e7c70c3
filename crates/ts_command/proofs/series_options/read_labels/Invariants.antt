use Rattle.std.proofs.Common.{◌≡◌, [], length}
use Rattle.ts_spec.specs.SeriesOptions.{labels_after}
use Rattle.ts_command.proofs.series_options.read_labels.Given as goal

-- the labels so far go on to those of all words
abbrev pub invariant-loop-name : goal.invariant-loop-name
invariant-loop-name l = labels_after l.labels l.rest ≡ labels_after [] l.words

abbrev pub decreases-loop-name : goal.decreases-loop-name
decreases-loop-name l = length l.rest
