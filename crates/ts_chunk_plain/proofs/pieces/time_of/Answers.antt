use Rattle.std.proofs.Common.{◌∙◌, ap}
use Rattle.std.specs.Int.{w64, from_le_bytes}
use Rattle.ts_chunk_plain.specs.Plain.{sample_of}
use Rattle.ts_chunk_plain.proofs.pieces.time_of.Goals as goal

pub returns : goal.returns
unfolding sample_of
returns c = c.from_le_bytes.ensures ∙ ap (from_le_bytes w64) c.part.ensures
