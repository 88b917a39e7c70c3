use Rattle.std.specs.Vec.Iter.{into_iter_items}
use Rattle.ts_command.specs.Reading.{triples_of}
use Rattle.ts_execution.proofs.Items.{Adding}
use Rattle.ts_execution.proofs.multi_add.add_triples.Given as goal

-- the items so far are in the buffer, which has space for those of the remaining triples
abbrev pub invariant-loop-triple : goal.invariant-loop-triple
invariant-loop-triple g l = Adding l.reading (triples_of l.fn.triples.items) (triples_of (into_iter_items l.triple-iterator)) l.initial.db l.db l.out.bytes l.out.spare
