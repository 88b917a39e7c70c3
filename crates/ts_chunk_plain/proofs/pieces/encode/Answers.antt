use Rattle.std.proofs.Common.{◌∙◌, ap, arith}
use Rattle.std.specs.Int.{w32, w64, w128, to_le_bytes, cast_unsigned}
use Rattle.std.proofs.lemmas.Int.{to_z-of_z, fits_signed_from_abs}
use Rattle.ts_spec.specs.Sample.{Point}
use Rattle.ts_chunk_plain.proofs.Coding.{put_together}
use Rattle.ts_chunk_plain.proofs.pieces.encode.Goals as goal

pub returns : goal.returns
returns c =
    let p = c.args.sample.now in
    let whole = to_z-of_z w128 c.get.result (fits_signed_from_abs w128 c.get.result (omega (arith, c.get.ensures.bounded))) in
    put_together p c.cast_unsigned-value.result c.copy_from_slice.new.self c.copy_from_slice-2.new.self c.copy_from_slice-3.new.self c.copy_from_slice-4.new.self
    (c.cast_unsigned-value.ensures ∙ ap (cast_unsigned w128) (whole ∙ c.get.ensures.value ∙ ap (λ (x : Point). x.value) c.sample.view_is))
    (c.copy_from_slice.ensures.after ∙ c.to_le_bytes.ensures ∙ ap (λ (x : Point). to_le_bytes w64 x.time) c.sample.view_is)
    (c.copy_from_slice-2.ensures.after ∙ c.to_le_bytes-2.ensures)
    (c.copy_from_slice-3.ensures.after ∙ c.to_le_bytes-3.ensures)
    (c.copy_from_slice-4.ensures.after ∙ c.to_le_bytes-4.ensures ∙ ap (λ (x : Point). to_le_bytes w32 x.made) c.sample.view_is)
