use Rattle.std.proofs.Common.{drop}
use Rattle.ts_chunk_packed.proofs.Walking.{Walked}
use Rattle.ts_chunk_packed.proofs.interval_scan.scan_following.Given as goal

abbrev pub invariant-loop : goal.invariant-loop
invariant-loop g l =
    Walked g.V.Visit.step g.V.Visit.room l.from l.to l.initial.visit l.visit l.fn.rest.list (drop l.counter l.fn.rest.list) l.context l.bytes l.initial.steps l.steps l.counter
