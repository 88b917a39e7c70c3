use Rattle.std.proofs.Common.{◌≡◌, ◌+◌, ◌∙◌, ap, sym, refl, length, arith}
use Rattle.std.specs.Prelude.{nat_le}
use Rattle.ts_spec.specs.Sample.{Point, at_times}
use Rattle.ts_chunk_packed.proofs.Joining.{past_front, front_too_long, rises_all, all_too_long, all_put}
use Rattle.ts_chunk_packed.proofs.Starting.{rest_at, rest_reach, times_passed, no_more}
use Rattle.ts_chunk_packed.proofs.chunk.PackedChunk.with_sample.Goals as goal

pub try_append-requires : goal.try_append-requires
try_append-requires c =
    record {
      past = past_front c.args.sample.now c.args.self.now.list c.known.ensures.ascending (ap (λ (q : Point). q.time) c.sample.view_is) c.in_ok-chunk.ensures.list c.in_ok-chunk.ensures.rest;
    }

pub returns-then-not-try_append-clause-full : goal.returns-then-not-try_append-clause-full
returns-then-not-try_append-clause-full c =
    front_too_long c.args.sample.now c.args.self.now.list c.known.ensures.ascending (ap (λ (q : Point). q.time) c.sample.view_is) c.in_ok-chunk.ensures.list c.in_ok-chunk.ensures.rest
    c.in_ok-chunk.chunk.limit c.args.self.now.limit c.in_ok-chunk.ensures.limit c.if-not-try_append.ensures.fits

pub append_remaining-requires-clause-ascending : goal.append_remaining-requires-clause-ascending
append_remaining-requires-clause-ascending c =
    rises_all c.args.sample.now c.args.self.now.list c.known.ensures.ascending (ap (λ (q : Point). q.time) c.sample.view_is) c.in_ok-chunk.ensures.list c.in_ok-chunk.ensures.rest
    c.if-not-try_append.ensures.list c.pass_before.ensures.list

pub append_remaining-requires-clause-of : goal.append_remaining-requires-clause-of
append_remaining-requires-clause-of c =
    let here = rest_at c.sample.inside.time c.args.self.now.list c.known.ensures.ascending c.front.new.rest c.in_ok-chunk.ensures.rest c.in_ok-chunk.ensures.state in
    times_passed c.args.self.now.list c.front.new.rest c.pass_before.new.self here (c.sample.inside.time + 1) c.known.ensures.ascending c.pass_before.ensures.list c.pass_before.ensures.state

pub returns-then-not-append_remaining-clause-full : goal.returns-then-not-append_remaining-clause-full
returns-then-not-append_remaining-clause-full c =
    all_too_long c.args.sample.now c.args.self.now.list c.known.ensures.ascending (ap (λ (q : Point). q.time) c.sample.view_is) c.in_ok-chunk.ensures.list c.in_ok-chunk.ensures.rest
    c.if-not-try_append.ensures.list c.pass_before.ensures.list
    c.try_append.new.self.limit c.args.self.now.limit (c.if-not-try_append.ensures.limit ∙ c.in_ok-chunk.ensures.limit) c.if-not-append_remaining.ensures.fits

pub overflow_sub-result : goal.overflow_sub-result
overflow_sub-result c =
    let begun = c.rest_from-rest.result.list in
    let here : c.front.new.rest.list ≡ at_times (nat_le c.sample.inside.time) begun =
    c.in_ok-chunk.ensures.rest ∙ sym (rest_reach c.sample.inside.time c.args.self.now.list c.rest_from-rest.result c.rest_from-rest.ensures) in
    omega (
      arith,
      c.len.ensures,
      c.len-count.ensures,
      c.if-not-append_remaining.ensures.shorter,
      ap length c.pass_before.ensures.list,
      no_more (c.sample.inside.time + 1) c.front.new.rest.list,
      ap length here,
      no_more c.sample.inside.time begun,
    )

pub returns-clause-list : goal.returns-clause-list
returns-clause-list c =
    c.if-not-append_remaining.ensures.list refl ∙ all_put c.args.sample.now c.args.self.now.list c.known.ensures.ascending (ap (λ (q : Point). q.time) c.sample.view_is) c.in_ok-chunk.ensures.list c.in_ok-chunk.ensures.rest
    c.if-not-try_append.ensures.list c.pass_before.ensures.list
