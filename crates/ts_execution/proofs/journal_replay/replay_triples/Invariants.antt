use Rattle.std.specs.Vec.Iter.{into_iter_items}
use Rattle.ts_command.specs.Reading.{triples_of}
use Rattle.ts_db.specs.DbState.{Simulates}
use Rattle.ts_execution.proofs.ReplayedTriples.{WritesOn}
use Rattle.ts_execution.proofs.journal_replay.replay_triples.Given as goal

-- replaying the remaining triples gives what replaying all of them gives
abbrev pub invariant-loop-triple : goal.invariant-loop-triple
invariant-loop-triple g l = Simulates l.initial.db l.db (λ from now. WritesOn (triples_of l.fn.triples.items) (triples_of (into_iter_items l.triple-iterator)) from now)
