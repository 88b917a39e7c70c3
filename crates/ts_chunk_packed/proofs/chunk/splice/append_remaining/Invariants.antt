use Rattle.ts_chunk_packed.proofs.Joining.{Taken}
use Rattle.ts_chunk_packed.proofs.chunk.splice.append_remaining.Given as goal

abbrev pub invariant-loop : goal.invariant-loop
invariant-loop l =
    Taken l.initial.chunk.limit l.initial.chunk.list l.initial.rest.list l.initial.rest.state l.counter l.chunk.limit l.chunk.list l.rest.list l.rest.state
