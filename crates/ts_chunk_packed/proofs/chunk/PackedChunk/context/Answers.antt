use Rattle.std.proofs.Common.{◌∙◌}
use Rattle.ts_chunk_packed.proofs.Pushing.{step_within, state}
use Rattle.ts_chunk_packed.proofs.chunk.PackedChunk.context.Goals as goal

pub new-requires : goal.new-requires
new-requires c =
    let f = c.self.inside in
    step_within c.self.invariant.packed

pub returns : goal.returns
returns c =
    let f = c.self.inside in
    c.new.ensures ∙ state c.self.invariant.packed c.self.view_is
