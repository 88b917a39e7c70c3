use Rattle.ts_chunk_packed.proofs.Placing.{from_place, one_passed, one_more}
use Rattle.ts_chunk_packed.proofs.chunk.PackedChunkChunk.read.Goals as goal

pub place_before-requires : goal.place_before-requires
place_before-requires g c =
    let past = from_place c.args.self.now.list c.rest_at-rest.result c.as_ref.result c.args.place.now c.as_ref.ensures.value c.rest_at-rest.ensures.all c.rest_at-rest.ensures.past in
    one_passed c.args.self.now.list _ c.rest_at-rest.result c.next.new.self past c.in_ok-sample.ensures.list c.in_ok-sample.ensures.state

pub returns-clause-passed : goal.returns-clause-passed
returns-clause-passed g c =
    let past = from_place c.args.self.now.list c.rest_at-rest.result c.as_ref.result c.args.place.now c.as_ref.ensures.value c.rest_at-rest.ensures.all c.rest_at-rest.ensures.past in
    one_more c.args.self.now.list _ c.rest_at-rest.result c.next.new.self past c.in_ok-sample.ensures.list _ c.place_before.ensures.passed
