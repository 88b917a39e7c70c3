use Rattle.std.proofs.Common.{◌≡◌, drop, fold}
use Rattle.ts_restore.specs.CheckNumber.{check_word, check_number}
use Rattle.ts_checkpoint.proofs.draft.check_number.Given as goal

-- the check number so far, continued over the words that are left
abbrev pub invariant-loop-word : goal.invariant-loop-word
invariant-loop-word l = fold check_word l.check (drop l.word-index l.words) ≡ check_number l.words
