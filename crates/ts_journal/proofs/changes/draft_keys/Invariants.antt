use Rattle.std.proofs.Common.{take}
use Rattle.ts_journal.specs.Draft.{AppendsWords}
use Rattle.ts_journal.proofs.changes.draft_keys.Given as goal

-- the keys before this one were appended
abbrev pub invariant-loop-key : goal.invariant-loop-key
invariant-loop-key l = AppendsWords l.fn.draft l.draft (take l.key-index l.keys)
