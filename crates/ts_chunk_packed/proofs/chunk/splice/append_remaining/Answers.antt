use Rattle.std.proofs.Common.{ap, ◌∙◌, ◌++◌, take, arith}
use Rattle.std.proofs.lemmas.List.{take-append-drop}
use Rattle.ts_chunk_packed.proofs.Joining.{longer_still, known_alike}
use Rattle.ts_chunk_packed.proofs.Starting.{some_passed}
use Rattle.ts_chunk_packed.proofs.chunk.splice.append_remaining.Goals as goal

pub returns-then-not-append_next-clause-fits : goal.returns-then-not-append_next-clause-fits
returns-then-not-append_next-clause-fits c =
    longer_still c.loop.invariant c.if-not-append_next.ensures.fits

pub try_append_rest-requires-clause-alike : goal.try_append_rest-requires-clause-alike
try_append_rest-requires-clause-alike c =
    let l = c.loop in
    known_alike c.loop.invariant (omega (arith, l.auto.counter-end, c.loop-test.false))

pub try_append_rest-requires-clause-of : goal.try_append_rest-requires-clause-of
try_append_rest-requires-clause-of c =
    let l = c.loop in
    let passed = take l.counter c.args.rest.now.list in
    some_passed c.args.other.now.list c.args.rest.now l.rest c.requires.of passed
    (ap (λ rest. passed ++ rest) l.invariant.rest ∙ take-append-drop l.counter c.args.rest.now.list) l.invariant.state
