use Rattle.std.proofs.Common.{◌≡◌, ◌++◌, length}
use Rattle.std.specs.Vec.Iter.{into_iter_items}
use Rattle.ts_spec.specs.Grammar.{triples}
use Rattle.ts_command.specs.Reading.{triples_of}
use Rattle.ts_command.proofs.triple.read_triples.Given as goal

-- the triples so far and those of the words that are left are all of them
abbrev pub invariant-loop-triple : goal.invariant-loop-triple
invariant-loop-triple l = triples_of l.triples.items ++ triples (into_iter_items l.words) ≡ triples (into_iter_items l.initial.words)

abbrev pub decreases-loop-triple : goal.decreases-loop-triple
decreases-loop-triple l = length (into_iter_items l.words)
