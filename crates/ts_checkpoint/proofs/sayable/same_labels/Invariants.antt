use Rattle.std.proofs.Common.{◌≡◌, length, take}
use Rattle.ts_checkpoint.proofs.sayable.same_labels.Given as goal

-- the labels before this one are the same
abbrev pub invariant-loop-i : goal.invariant-loop-i
invariant-loop-i l = record { lengths : length l.some ≡ length l.others; same : take l.i l.some ≡ take l.i l.others }
