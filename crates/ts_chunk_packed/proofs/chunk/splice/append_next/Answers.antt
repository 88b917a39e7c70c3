use Rattle.std.proofs.Common.{◌∙◌, sym}
use Rattle.ts_chunk_packed.proofs.Joining.{past-next}
use Rattle.ts_chunk_packed.proofs.chunk.splice.append_next.Goals as goal

pub try_append-requires : goal.try_append-requires
try_append-requires c =
    record { past = past-next c.args.chunk.now.list c.args.rest.now.list c.in-Some.sample (sym c.in-Some.is ∙ c.next.ensures.sample) c.requires.ascending }
