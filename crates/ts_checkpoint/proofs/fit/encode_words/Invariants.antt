use Rattle.std.proofs.Common.{◌≡◌, ◌++◌, drop}
use Rattle.ts_spec.specs.Encoded.{encoded_words}
use Rattle.ts_checkpoint.proofs.fit.encode_words.Given as goal

-- the bytes so far and those of the words that are left are those of all
abbrev pub invariant-loop-word : goal.invariant-loop-word
invariant-loop-word l = l.out.bytes ++ encoded_words (drop l.word-index l.words) ≡ l.fn.out.bytes ++ encoded_words l.words
