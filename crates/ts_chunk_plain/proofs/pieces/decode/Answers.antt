use Rattle.std.proofs.Common.{◌≡◌, ◌≤◌, ◌∙◌, ap, sym, subst, List, ℕ, SFits}
use Rattle.std.specs.Prelude.{unsigned_abs, IfSome}
use Rattle.std.specs.Int.{w32, w128, from_le_bytes, cast_signed, cast_unsigned}
use Rattle.std.proofs.lemmas.Int.{to_z-of_z}
use Rattle.ts_spec.specs.Value.{bound}
use Rattle.ts_chunk_plain.specs.Plain.{sample_of}
use Rattle.ts_chunk_plain.proofs.pieces.decode.Goals as goal

pub unwrap-requires : goal.unwrap-requires
unfolding sample_of
unwrap-requires c =
    let read = c.from_le_bytes.result in
    let fits : SFits w128 read = record { sfits = c.from_le_bytes.type_inv } in
    let is = to_z-of_z w128 read fits ∙ c.from_le_bytes.ensures ∙ ap (λ (l : List ℕ). cast_signed w128 (from_le_bytes w128 l)) c.part.ensures in
    c.new.ensures.valid.1 (subst (λ z. unsigned_abs z ≤ bound) (sym is) c.requires.value)

pub returns : goal.returns
unfolding sample_of
returns c =
    let read = c.from_le_bytes.result in
    let fits : SFits w128 read = record { sfits = c.from_le_bytes.type_inv } in
    let is = to_z-of_z w128 read fits ∙ c.from_le_bytes.ensures ∙ ap (λ (l : List ℕ). cast_signed w128 (from_le_bytes w128 l)) c.part.ensures in
    let value = subst (λ o. IfSome o (λ u. u ≡ cast_signed w128 (cast_unsigned w128 read))) c.unwrap.ensures c.new.ensures.value ∙ is in
    let made = c.from_le_bytes-2.ensures ∙ ap (from_le_bytes w32) c.part-2.ensures in
    λ i. record { time = c.time_of.ensures i; value = value i; made = made i }
