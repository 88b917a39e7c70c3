use Rattle.std.proofs.Common.{◌≡◌, ◌≤◌, drop, length, vec_len, vec_capacity}
use Rattle.ts_spec.specs.ManySeries.{names_of}
use Rattle.ts_command.proofs.ListLemmas.{names_after}
use Rattle.ts_command.proofs.list_arguments.read_names.Given as goal

-- the names so far go on to those of all words, and there is room for as many as there are words
abbrev pub invariant-loop-word : goal.invariant-loop-word
invariant-loop-word l = record {
  names : names_after l.names.items (drop l.word-index l.words) ≡ names_of l.words;
  count : vec_len l.names ≡ l.word-index;
  room : length l.words ≤ vec_capacity l.names;
}
