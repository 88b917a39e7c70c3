use Rattle.std.specs.Prelude.{vec_capacity}
use Rattle.ts_chunk_packed.specs.Packed.{samples_of}
use Rattle.ts_chunk_packed.proofs.Pushing.{empty, no_samples}
use Rattle.ts_chunk_packed.proofs.chunk.PackedChunkChunk.new.Goals as goal

pub invariant_of-result : goal.invariant_of-result
invariant_of-result c =
    let bytes = c.in_ok-with_capacity in
    record { packed = empty c.args.limit (vec_capacity bytes.field-0) bytes.field-0.items bytes.ensures.items c.requires bytes.ensures.capacity; marks = c.new.ensures (samples_of 0 bytes.field-0.items) }

pub returns-clause-list : goal.returns-clause-list
returns-clause-list c = no_samples c.in_ok-with_capacity.field-0.items
