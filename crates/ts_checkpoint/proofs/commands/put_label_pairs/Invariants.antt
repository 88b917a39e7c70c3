use Rattle.std.proofs.Common.{take}
use Rattle.ts_journal.specs.Record.{label_pairs}
use Rattle.ts_checkpoint.specs.Records.{Appends}
use Rattle.ts_checkpoint.proofs.commands.put_label_pairs.Given as goal

-- the labels before this one were appended
abbrev pub invariant-loop-i : goal.invariant-loop-i
invariant-loop-i l = Appends l.fn.draft l.draft (label_pairs (take l.i l.labels))
