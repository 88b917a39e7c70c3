use Rattle.std.proofs.Common.{length, ap, ◌∙◌, arith}
use Rattle.ts_chunk_packed.proofs.Placing.{left_past}
use Rattle.ts_chunk_packed.proofs.Starting.{rest_reach, times_passed, no_more, shorter}
use Rattle.ts_chunk_packed.proofs.chunk.PackedChunkChunk.place_from.Goals as goal

pub overflow_sub-count : goal.overflow_sub-count
overflow_sub-count g c =
    omega (arith, c.saturating_sub-unread.ensures, c.len.ensures, c.len-count.ensures, ap length c.pass_before.ensures.list, no_more c.args.time c.rest_from-rest.result.list)

pub place_before-requires : goal.place_before-requires
place_before-requires g c =
    times_passed c.args.self.now.list c.rest_from-rest.result c.pass_before.new.self c.rest_from-rest.ensures.rest c.args.time c.known.ensures.ascending c.pass_before.ensures.list c.pass_before.ensures.state

pub returns-clause-left : goal.returns-clause-left
returns-clause-left g c =
    let of = times_passed c.args.self.now.list c.rest_from-rest.result c.pass_before.new.self c.rest_from-rest.ensures.rest c.args.time c.known.ensures.ascending c.pass_before.ensures.list c.pass_before.ensures.state in
    left_past c.args.self.now.list c.pass_before.new.self of _ c.place_before.ensures.passed ∙ c.pass_before.ensures.list ∙ rest_reach c.args.time c.args.self.now.list c.rest_from-rest.result c.rest_from-rest.ensures

pub returns-clause-steps : goal.returns-clause-steps
returns-clause-steps g c =
    record {
      counted = omega (arith, c.add.ensures);
      bounded = omega (arith, c.add.ensures, c.len-count.ensures, shorter c.args.self.now.list c.rest_from-rest.result c.rest_from-rest.result c.rest_from-rest.ensures.rest);
    }
