use Rattle.std.proofs.Common.{◌≡◌, ◌≤◌, drop, length, vec_len, vec_capacity}
use Rattle.ts_spec.specs.ManySeries.{filters_of}
use Rattle.ts_command.proofs.ListLemmas.{filters_after}
use Rattle.ts_command.proofs.list_arguments.read_filters.Given as goal

-- the filters so far go on to those of all words, and there is room for as many as there are words
abbrev pub invariant-loop-word : goal.invariant-loop-word
invariant-loop-word l = record {
  filters : filters_after l.filters.items (drop l.word-index l.words) ≡ filters_of l.words;
  count : vec_len l.filters ≡ l.word-index;
  room : length l.words ≤ vec_capacity l.filters;
}
