use Rattle.std.proofs.Common.{◌≡◌, drop, fold, length}
use Rattle.ts_restore.specs.CheckNumber.{check_symbol}
use Rattle.ts_restore.proofs.check_number.with_word.Given as goal

-- the check number so far, continued over the bytes that are left
abbrev pub invariant-loop-left : goal.invariant-loop-left
invariant-loop-left l = fold check_symbol l.so_far l.left ≡ fold check_symbol l.check l.word

abbrev pub decreases-loop-left : goal.decreases-loop-left
decreases-loop-left l = length l.left

abbrev pub invariant-loop-byte : goal.invariant-loop-byte
invariant-loop-byte l = fold check_symbol l.so_far (drop l.byte-index l.byte-items) ≡ fold check_symbol l.check l.word
