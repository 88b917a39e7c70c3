use Rattle.std.proofs.Common.{◌≡◌, drop}
use Rattle.ts_checkpoint.specs.WithinLimits.{fit_within}
use Rattle.ts_checkpoint.proofs.fit.fit_within.Given as goal

-- the words that are left fit what is left exactly if all fit
abbrev pub invariant-loop-word : goal.invariant-loop-word
invariant-loop-word l = fit_within l.limits.word_bytes l.left (drop l.word-index l.words) ≡ fit_within l.limits.word_bytes l.limits.request_bytes l.words
