use Rattle.std.proofs.Common.{ap, arith}
use Rattle.ts_spec.specs.Sample.{Point}
use Rattle.ts_chunk_plain.proofs.Splicing.{count_within, plain-spliced, spliced_list, too_long}
use Rattle.ts_chunk_plain.proofs.chunk.PlainChunkChunk.spliced.Goals as goal

pub overflow_mul-start : goal.overflow_mul-start
overflow_mul-start g c =
    let start = c.lower_bound-start.ensures in
    omega (
      arith,
      count_within c.self.invariant c.self.view_is c.args.sample.now c.pieces-pieces.result.now c.pieces-pieces.ensures.list (ap (λ (q : Point). q.time) c.sample.view_is)
          c.upper_bound-end.result start.within start.before c.upper_bound-end.ensures.past,
    )

pub returns-then-start-pieces-clause-full : goal.returns-then-start-pieces-clause-full
returns-then-start-pieces-clause-full g c =
    let start = c.lower_bound-start.ensures in
    too_long c.self.invariant c.self.view_is c.args.sample.now c.pieces-pieces.result.now c.pieces-pieces.ensures.list (ap (λ (q : Point). q.time) c.sample.view_is)
    c.upper_bound-end.result start.within start.before c.upper_bound-end.ensures.past (omega (arith, c.if-start-pieces.true))

pub invariant_of-result : goal.invariant_of-result
invariant_of-result g c =
    let start = c.lower_bound-start.ensures in
    plain-spliced c.self.invariant c.self.view_is c.args.sample.now c.pieces-pieces.result.now c.pieces-pieces.ensures.list (ap (λ (q : Point). q.time) c.sample.view_is)
    c.upper_bound-end.result start.within start.before c.upper_bound-end.ensures.past c.known.ensures c.before-2.ensures c.past.ensures c.in_ok-joined.ensures.items
    c.in_ok-joined.ensures.room c.first_with.ensures c.last_with.ensures (omega (arith, c.if-start-pieces.false))

pub returns-clause-list : goal.returns-clause-list
returns-clause-list g c =
    let start = c.lower_bound-start.ensures in
    spliced_list c.self.invariant c.self.view_is c.args.sample.now c.pieces-pieces.result.now c.pieces-pieces.ensures.list (ap (λ (q : Point). q.time) c.sample.view_is)
    c.upper_bound-end.result start.within start.before c.upper_bound-end.ensures.past c.known.ensures c.before-2.ensures c.past.ensures c.in_ok-joined.ensures.items
