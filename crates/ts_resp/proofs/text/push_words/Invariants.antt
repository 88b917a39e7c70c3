use Rattle.std.proofs.Common.{◌≡◌, ◌++◌, length}
use Rattle.ts_spec.specs.Wire.{words_of, words_of_line}
use Rattle.ts_resp.proofs.text.push_words.Given as goal

-- the arguments so far and those of the rest are all arguments
abbrev pub invariant-loop-word : goal.invariant-loop-word
invariant-loop-word l = l.words.items ++ words_of l.rest ≡ l.fn.words.items ++ words_of_line l.fn.line

abbrev pub decreases-loop-word : goal.decreases-loop-word
decreases-loop-word l = length l.rest
