use Rattle.std.proofs.Common.{take}
use Rattle.ts_journal.specs.Draft.{AppendsWords}
use Rattle.ts_journal.specs.Record.{label_pairs}
use Rattle.ts_journal.proofs.options.draft_label_pairs.Given as goal

-- the labels before this one were appended
abbrev pub invariant-loop-i : goal.invariant-loop-i
invariant-loop-i l = AppendsWords l.fn.draft l.draft (label_pairs (take l.i l.labels))
