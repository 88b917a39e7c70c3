use Rattle.std.proofs.Common.{◌≡◌, take}
use Rattle.ts_execution.proofs.heads.copied.Given as goal

-- the words so far were copied
abbrev pub invariant-loop-word : goal.invariant-loop-word
invariant-loop-word l = l.copy.items ≡ take l.word-index l.words.items
