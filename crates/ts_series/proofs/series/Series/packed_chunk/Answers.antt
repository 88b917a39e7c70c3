use Rattle.std.proofs.Common.{[], sym, ◌∙◌, ap, subst}
use Rattle.std.specs.Prelude.{slice_index, slice_index_or}
use Rattle.ts_sample.specs.Chunk.{IsChunk}
use Rattle.ts_chunk_packed.specs.Packed.{packed}
use Rattle.ts_series.specs.Encoded.{history_in}
use Rattle.ts_series.specs.History.{History}
use Rattle.ts_series.specs.Stored.{Stored}
use Rattle.ts_series.proofs.Formats.{plain-packs}
use Rattle.ts_series.proofs.series.Series.packed_chunk.Goals as goal

pub returns-in_ok-repacked-in-Plain-clause-chunk : goal.returns-in_ok-repacked-in-Plain-clause-chunk
returns-in_ok-repacked-in-Plain-clause-chunk c =
    let i = c.args.index in
    let held = c.line.inside.chunks in
    let view = c.line.view_is ∙ sym (ap history_in c.in-Plain.is) ∙ c.self.view_is in
    subst (λ (h : Stored). IsChunk packed (slice_index h.limits i) (slice_index_or h.pieces i [])) (ap (λ (h : History). h.held) view)
    (plain-packs (slice_index held.limits i) (slice_index_or held.pieces i []) c.chunk.ensures.chunk)
