use Rattle.std.proofs.Common.{◌≡◌, ◌≤◌, All, drop, length, vec_len, vec_capacity}
use Rattle.ts_spec.specs.Sample.{MAX_TIME}
use Rattle.ts_spec.specs.Ranges.{times_of}
use Rattle.ts_command.proofs.ListLemmas.{times_after}
use Rattle.ts_command.proofs.list_arguments.read_times.Given as goal

-- the times so far go on to those of all words, and there is room for as many as there are words
abbrev pub invariant-loop-word : goal.invariant-loop-word
invariant-loop-word l = record {
  times : times_after l.times.items (drop l.word-index l.words) ≡ times_of l.words;
  bound : All (λ t. t ≤ MAX_TIME) l.times.items;
  count : vec_len l.times ≡ l.word-index;
  room : length l.words ≤ vec_capacity l.times;
}
